-- Lists that ascend strictly, and how many of their items are at most x.
use Rattle.std.proofs.Common.{◌≡◌, ℕ, suc, zero, ◌≤◌, ◌<◌, ◌+◌, nat_le, Bool, true, false, List, [], ◌∷◌, length, slice_index, slice_index_or, count_by, cond, arith, ap, ⊎_elim, subst}
use Rattle.std.proofs.lemmas.Bool.{cases_lt, le-leb, lt-leb}
use Rattle.std.proofs.lemmas.List.{get_or_default}
use Rattle.std.proofs.lemmas.List.Kept.{AllPairs-from_increasing}
use Rattle.std.proofs.lemmas.List.Sums.{sum_by-cons}
use Rattle.std.specs.List.Sorted.{IsStrictlyIncreasing}

-- each item is at least as great as its number in the list
pub number-le : (xs : List ℕ) → IsStrictlyIncreasing xs → (k : ℕ) → k < length xs → k ≤ slice_index xs k
number-le xs up zero within = omega arith
number-le xs up (suc k) within =
    let before : k ≤ slice_index xs k = number-le xs up k (omega arith) in
    let step : slice_index xs k < slice_index xs (k + 1) = up k (omega arith) in
    let e : k + 1 ≡ suc k = omega arith in
    subst (λ n. n ≤ slice_index xs n) e (omega arith)

-- a later item is greater
pub later-gt : (xs : List ℕ) → IsStrictlyIncreasing xs → (i j : ℕ) → i < j → j < length xs → slice_index xs i < slice_index xs j
later-gt xs up i j lt within = AllPairs-from_increasing xs up i j 0 lt within

-- an item that isn't earlier is at least as great
pub from-le : (xs : List ℕ) → IsStrictlyIncreasing xs → (i j : ℕ) → i ≤ j → j < length xs → slice_index xs i ≤ slice_index xs j
from-le xs up i j le within =
    ⊎_elim (λ lt. let l = later-gt xs up i j lt within in omega arith) (λ ge. let e : i ≡ j = omega arith in subst (λ n. slice_index xs i ≤ slice_index xs n) e (omega arith)) (cases_lt i j)

-- where the first n items pass, and no other, n pass
pub count_by-front : (p : ℕ → Bool) (xs : List ℕ) (n : ℕ) → n ≤ length xs → ((i : ℕ) → i < n → p (slice_index xs i) ≡ true) → ((i : ℕ) → n ≤ i → i < length xs → p (slice_index xs i) ≡ false)
    → count_by p xs ≡ n
count_by-front p [] n le front rest = omega arith
count_by-front p (x ∷ xs) zero le front rest =
    let here = sum_by-cons (λ y. cond (p y) 1 0) x xs in
    let out = ap {B = ℕ} (λ b. cond b 1 0) (rest 0 (omega arith) (omega arith)) in
    let more = count_by-front p xs zero (omega arith) (λ i lt. absurd (omega arith)) (λ i ge within. rest (suc i) (omega arith) (omega arith)) in
    omega (arith, here, out, more)
count_by-front p (x ∷ xs) (suc n) le front rest =
    let here = sum_by-cons (λ y. cond (p y) 1 0) x xs in
    let in_front = ap {B = ℕ} (λ b. cond b 1 0) (front 0 (omega arith)) in
    let more = count_by-front p xs n (omega arith) (λ i lt. front (suc i) (omega arith)) (λ i ge within. rest (suc i) (omega arith) (omega arith)) in
    omega (arith, here, in_front, more)

-- those that are at most x are the items up to the last such one
pub count_by-nat_le : (xs : List ℕ) (k x d : ℕ) → IsStrictlyIncreasing xs → k < length xs → slice_index xs k ≤ x → x < slice_index_or xs (k + 1) d → count_by (λ f. nat_le f x) xs ≡ k + 1
count_by-nat_le xs k x d up within here after =
    count_by-front (λ f. nat_le f x) xs (k + 1) (omega arith) (λ i lt. let l = from-le xs up i k (omega arith) within in le-leb _ x (omega arith))
    (λ i ge inside.
    let next = get_or_default xs (k + 1) d 0 (omega arith) in
    let l = from-le xs up (k + 1) i ge inside in
    lt-leb _ x (omega (arith, next, l)))

-- the last item that is at most x: there is one where the first item is
pub record LastUpTo (xs : List ℕ) (x d : ℕ) : Type 0 where
  pub number : ℕ
  pub within : number < length xs
  pub here : slice_index xs number ≤ x
  pub after : x < slice_index_or xs (number + 1) d

pub last_up_to : (xs : List ℕ) (x d n : ℕ) → slice_index xs 0 ≤ x → 0 < n → n ≤ length xs → x < slice_index_or xs n d → LastUpTo xs x d
last_up_to xs x d zero first some within above = absurd (omega arith)
last_up_to xs x d (suc n) first some within above =
    ⊎_elim (λ over. last_up_to xs x d n first (positive n over) (omega arith) (let same = get_or_default xs n d 0 (omega arith) in omega (arith, same)))
    (λ here. record { number = n; within = omega arith; here = here; after = let e : suc n ≡ n + 1 = omega arith in subst (λ m. x < slice_index_or xs m d) e above }) (cases_lt x (slice_index xs n))
  where
    positive : (m : ℕ) → x < slice_index xs m → 0 < m
    positive zero over = absurd (omega arith)
    positive (suc m) over = omega arith
