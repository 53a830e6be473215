-- Counting cuts.
use Rattle.std.proofs.Common.{◌≡◌, ℕ, ◌≤◌, ◌<◌, ◌+◌, ◌&&◌, ◌⊎◌, nat_le, nat_lt, Bool, true, false, List, [], ◌∷◌, refl, arith, cond, ap, sym, subst, ◌∙◌, length, slice_index_or, zero, suc, ⊎_elim}
use Rattle.std.proofs.lemmas.Bool.{cases_lt}
use Rattle.std.proofs.lemmas.List.{get_or_default}
use Rattle.std.proofs.lemmas.Bool.Decides.{nat_tests}
use Rattle.std.proofs.lemmas.List.Kept.{AllPairs-from_increasing}
use Rattle.std.proofs.lemmas.List.Sums.{sum_by-cons}
use Rattle.std.specs.List.{count_by, AllPairs, All, Contains}
use Rattle.std.specs.Prelude.{IsTrue, Result, Ok, Err, is_ok, MatchResult}
use Rattle.std.specs.List.Sorted.{IsStrictlyIncreasing, IsPartitionPoint, IsNonDecreasingBy}
use Rattle.header_boxes.specs.Cells.{piece_of}

-- a list that ascends does not fall
pub non_decreasing : (xs : List ℕ) → IsStrictlyIncreasing xs → IsNonDecreasingBy (λ x. x) xs
non_decreasing xs up i j d le at =
    ⊎_elim (λ lt. let s = AllPairs-from_increasing xs up i j d lt at in omega arith) (λ ge. let e : i ≡ j = omega arith in subst (λ (t : ℕ). slice_index_or xs i d ≤ slice_index_or xs t d) e (omega arith)) (cases_lt i j)

-- the place up to which a test passes is how many pass it
pub count_from_point : (p : ℕ → Bool) (xs : List ℕ) (i : ℕ) → i ≤ length xs → IsPartitionPoint (λ y. p y ≡ true) (λ y. p y ≡ false) xs i → count_by p xs ≡ i
count_from_point p [] i le point = omega arith
count_from_point p (x ∷ xs) zero le point =
    let first = point.1 0 0 (omega arith) (omega arith) in
    let more = count_from_point p xs 0 (omega arith) ((λ k d l h. absurd (omega arith)), (λ k d l h. point.1 (suc k) d (omega arith) (omega arith))) in
    one_more (p x) false _ _ 0 first (sum_by-cons (λ y. cond (p y) 1 0) x xs) more
  where
    one_more : (t u : Bool) (n m k : ℕ) → t ≡ u → m ≡ cond t 1 0 + n → n ≡ k → m ≡ cond u 1 0 + k
    one_more true true n m k e s f = omega arith
    one_more false false n m k e s f = omega arith
    one_more true false n m k e s f = cc
    one_more false true n m k e s f = cc
count_from_point p (x ∷ xs) (suc i) le point =
    let first = point.0 0 0 (omega arith) (omega arith) in
    let more = count_from_point p xs i (omega arith) ((λ k d l h. point.0 (suc k) d (omega arith) (omega arith)), (λ k d l h. point.1 (suc k) d (omega arith) (omega arith))) in
    counted (p x) _ _ i first (sum_by-cons (λ y. cond (p y) 1 0) x xs) more
  where
    counted : (t : Bool) (n m i : ℕ) → t ≡ true → m ≡ cond t 1 0 + n → n ≡ i → m ≡ suc i
    counted true n m i e s f = omega arith
    counted false n m i e s f = cc

-- the cuts up to a and those above it up to x are the cuts up to x
pub count_apart : (cuts : List ℕ) (r : ℕ × ℕ) (x : ℕ) → r.0 ≤ x → piece_of cuts r x + count_by (λ c. nat_le c r.0) cuts ≡ count_by (λ c. nat_le c x) cuts
count_apart [] r x le = refl
count_apart (c ∷ cs) r x le =
    let s1 = sum_by-cons (λ y. cond (nat_lt r.0 y && nat_le y x) 1 0) c cs in
    let s2 = sum_by-cons (λ y. cond (nat_le y r.0) 1 0) c cs in
    let s3 = sum_by-cons (λ y. cond (nat_le y x) 1 0) c cs in
    let more = count_apart cs r x le in
    let here = one r.0 c x le in
    omega (arith, s1, s2, s3, more, here)
  where
    one : (a c x : ℕ) → a ≤ x → cond (nat_lt a c && nat_le c x) 1 0 + cond (nat_le c a) 1 0 ≡ cond (nat_le c x) 1 0
    one a c x le = grind (arith, nat_tests)

-- what passes one test passes another
pub count_by-le : (p q : ℕ → Bool) (xs : List ℕ) → All (λ y. p y ≡ true → q y ≡ true) xs → count_by p xs ≤ count_by q xs
count_by-le p q [] all = omega arith
count_by-le p q (x ∷ xs) all =
    let s1 = sum_by-cons (λ y. cond (p y) 1 0) x xs in
    let s2 = sum_by-cons (λ y. cond (q y) 1 0) x xs in
    let more = count_by-le p q xs (λ k d at. all (suc k) d (omega arith)) in
    let here = one (p x) (q x) (all 0 0 (omega arith)) in
    omega (arith, s1, s2, more, here)
  where
    one : (s t : Bool) → (s ≡ true → t ≡ true) → cond s 1 0 ≤ cond t 1 0
    one true true i = omega arith
    one false t i = omega arith
    one true false i = let e = i refl in cc

-- and one more passes the second only
pub count_by-lt : (p q : ℕ → Bool) (xs : List ℕ) (k : ℕ) → k < length xs → All (λ y. p y ≡ true → q y ≡ true) xs → p (slice_index_or xs k 0) ≡ false → q (slice_index_or xs k 0) ≡ true → count_by p xs < count_by q xs
count_by-lt p q [] k at all e f = absurd (omega arith)
count_by-lt p q (x ∷ xs) zero at all e f =
    let s1 = sum_by-cons (λ y. cond (p y) 1 0) x xs in
    let s2 = sum_by-cons (λ y. cond (q y) 1 0) x xs in
    let more = count_by-le p q xs (λ k d at. all (suc k) d (omega arith)) in
    let z : ◌≡◌ {A = ℕ} (cond (p x) 1 0) 0 = ap (λ (t : Bool). cond t 1 0) e in
    let o : ◌≡◌ {A = ℕ} (cond (q x) 1 0) 1 = ap (λ (t : Bool). cond t 1 0) f in
    omega (arith, s1, s2, more, z, o)
count_by-lt p q (x ∷ xs) (suc k) at all e f =
    let s1 = sum_by-cons (λ y. cond (p y) 1 0) x xs in
    let s2 = sum_by-cons (λ y. cond (q y) 1 0) x xs in
    let more = count_by-lt p q xs k (omega arith) (λ k d at. all (suc k) d (omega arith)) e f in
    let here = one (p x) (q x) (all 0 0 (omega arith)) in
    omega (arith, s1, s2, more, here)
  where
    one : (s t : Bool) → (s ≡ true → t ≡ true) → cond s 1 0 ≤ cond t 1 0
    one true true i = omega arith
    one false t i = omega arith
    one true false i = let e = i refl in cc

-- numbers that ascend above a up to x are at most x - a
piece_bound : (xs : List ℕ) (a b x : ℕ) → AllPairs (λ y z. y < z) xs → a ≤ x → piece_of xs (a, b) x + a ≤ x
piece_bound [] a b x up le = omega arith
piece_bound (c ∷ cs) a b x up le =
    let tail : AllPairs (λ y z. y < z) cs = λ i j d lt at. up (suc i) (suc j) d (omega arith) (omega arith) in
    let s = sum_by-cons (λ y. cond (nat_lt a y && nat_le y x) 1 0) c cs in
    let without = piece_bound cs a b x tail le in
    ⊎_elim
    (λ in_range.
    let inside = piece_bound cs c b x tail in_range.1 in
    let fewer = count_by-le (λ y. nat_lt a y && nat_le y x) (λ y. nat_lt c y && nat_le y x) cs (λ k d at. also a c x (slice_index_or cs k d) (up 0 (suc k) d (omega arith) (omega arith))) in
    let one = counted a c x in
    omega (arith, s, inside, fewer, one, in_range.0))
    (λ out. omega (arith, s, without, out))
    (cases_in a c x)
  where
    cases_in : (a c x : ℕ) → ((a < c) × (c ≤ x)) ⊎ (◌≡◌ {A = ℕ} (cond (nat_lt a c && nat_le c x) 1 0) 0)
    cases_in a c x = grind (arith, nat_tests)

    counted : (a c x : ℕ) → cond (nat_lt a c && nat_le c x) 1 0 ≤ 1
    counted a c x = grind (arith, nat_tests)

    also : (a c x y : ℕ) → c < y → (nat_lt a y && nat_le y x) ≡ true → (nat_lt c y && nat_le y x) ≡ true
    also a c x y lt e = grind (arith, nat_tests)

pub piece_of_bound : (cuts : List ℕ) (r : ℕ × ℕ) (x : ℕ) → IsStrictlyIncreasing cuts → r.0 ≤ x → piece_of cuts r x + r.0 ≤ x
piece_of_bound cuts r x up le = piece_bound cuts r.0 r.1 x (AllPairs-from_increasing cuts up) le

-- what a search among numbers that rise answers says whether the number is there
pub is_ok_if_found : (xs : List ℕ) (x : ℕ) (r : Result ℕ ℕ)
    → MatchResult r (λ i. (i < length xs) × (slice_index_or xs i 0 ≡ x)) (λ i. (i ≤ length xs) × ((k : ℕ) → k < i → slice_index_or xs k 0 < x) × ((k : ℕ) → i ≤ k → k < length xs → x < slice_index_or xs k 0))
    → (IsTrue (is_ok r) → Contains xs x) × (Contains xs x → IsTrue (is_ok r))
is_ok_if_found xs x (Ok i) found = ((λ _. (i, found.0, get_or_default xs i x 0 found.0 ∙ found.1)), (λ _. refl))
is_ok_if_found xs x (Err i) found = (
  (λ t. cc),
  (λ there.
      let e : slice_index_or xs there.0 0 ≡ x = sym (get_or_default xs there.0 x 0 there.1) ∙ there.2 in
      absurd (⊎_elim (λ lt. let b = found.1 there.0 lt in omega arith) (λ ge. let b = found.2 there.0 ge there.1 in omega arith) (cases_lt there.0 i))),
)
