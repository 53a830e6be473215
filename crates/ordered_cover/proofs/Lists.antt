-- Counting the elements of a list that pass a test.
use Rattle.std.proofs.Common.{◌≡◌, ◌≢◌, All, AllPairs, ℕ, ◌≤◌, ◌<◌, ◌+◌, ◌-◌, Bool, set, true, false, List, [], ◌∷◌, ◌++◌, length, get_or, take, suc, zero, refl, arith, append_assoc, subst, ◌||◌, ap, sym, ◌∙◌, sum_by, ⊎_elim}
use Rattle.std.proofs.lemmas.Bool.{cases_lt}
use Rattle.std.proofs.lemmas.List.Sums.{sum_by-cons}
use Rattle.std.proofs.lemmas.List.{length-append, take_more, take_more_set, length-set}
use Rattle.std.proofs.Math.ListN.{get_or-append}
use Rattle.std.proofs.Math.Seq.{get_or-append_seam, take-append_seam, take-length}
use Rattle.std.proofs.lemmas.List.Elements.{All-head, All-tail}
use Rattle.std.proofs.lemmas.List.Sorted.{Contains-permutation, length_permutation, IsPermutation-push_more}
use Rattle.std.specs.List.{AllAdjacentBelow, list_any}
use Rattle.std.specs.List.Sorted.{IsPermutation}
use Rattle.ordered_cover.specs.Open.{one_if}

-- a list of one element has no other order
pub single : {X : Type 0} (x : X) (ys : List X) → IsPermutation (x ∷ []) ys → ys ≡ x ∷ []
single x [] p = let l = length_permutation _ _ p in absurd (omega (arith, l))
single x (y ∷ []) p = same (let lt : 0 < length (x ∷ []) = omega arith in Contains-permutation (x ∷ []) (y ∷ []) x p (0, lt, refl))
  where
    same : (k : ℕ) × (k < length (y ∷ [])) × (get_or (y ∷ []) k x ≡ x) → (y ∷ []) ≡ x ∷ []
    same (zero, lt, e) = ap (λ v. v ∷ []) e
    same (suc k, lt, e) = absurd (omega (arith, lt))
single x (y ∷ z ∷ zs) p = let l = length_permutation _ _ p in absurd (omega (arith, l))

-- one more of the elements that are added joins what is there
pub IsPermutation-add_more : {X : Type 0} (old added now new : List X) (k : ℕ) (d : X) → k < length added → IsPermutation (old ++ take k added) now → IsPermutation (get_or added k d ∷ now) new
    → IsPermutation (old ++ take (k + 1) added) new
IsPermutation-add_more old added now new k d lt all one =
    subst (λ v. IsPermutation (old ++ v) new) (sym (take_more added k d lt))
    (subst (λ v. IsPermutation v new) (append_assoc old (take k added) (get_or added k d ∷ [])) (IsPermutation-push_more _ _ _ _ all one))

pub at_most_one : (b : Bool) → one_if b ≤ 1
at_most_one true = omega arith
at_most_one false = omega arith

pub zero_for : (b : Bool) → b ≢ true → one_if b ≡ 0
zero_for true h = absurd (h refl)
zero_for false h = refl

module _ {X : Type 0} (p : X → Bool) where
  pub one_at : (xs : List X) (k : ℕ) (d : X) → k < length xs → p (get_or xs k d) ≡ true → 1 ≤ sum_by (λ x. one_if (p x)) xs
  one_at [] k d lt h = absurd (omega arith)
  one_at (x ∷ xs) zero d lt h = let s = sum_by-cons (λ x. one_if (p x)) x xs in let e = ap one_if h in omega (arith, s, e)
  one_at (x ∷ xs) (suc k) d lt h = let s = sum_by-cons (λ x. one_if (p x)) x xs in let r = one_at xs k d (omega arith) h in omega (arith, s, r)

  pub any_from_one : (xs : List X) → 1 ≤ sum_by (λ x. one_if (p x)) xs → list_any p xs ≡ true
  any_from_one [] h = absurd (omega arith)
  any_from_one (x ∷ xs) h = by (p x) refl (any_from_one xs)
    where
      by : (b : Bool) → p x ≡ b → (1 ≤ sum_by (λ x. one_if (p x)) xs → list_any p xs ≡ true) → (p x || list_any p xs) ≡ true
      by true e rest = ap (λ v. v || list_any p xs) e
      by false e rest =
          let s = sum_by-cons (λ x. one_if (p x)) x xs in let z = ap one_if e in
          let r : 1 ≤ sum_by (λ x. one_if (p x)) xs = omega (arith, s, z, h) in
          ap (λ v. v || list_any p xs) e ∙ rest r

  pub none_from_zero : (xs : List X) → sum_by (λ x. one_if (p x)) xs ≡ 0 → list_any p xs ≡ false
  none_from_zero [] h = refl
  none_from_zero (x ∷ xs) h = by (p x) refl (none_from_zero xs)
    where
      s : sum_by (λ x. one_if (p x)) (x ∷ xs) ≡ one_if (p x) + sum_by (λ x. one_if (p x)) xs
      s = sum_by-cons (λ x. one_if (p x)) x xs

      by : (b : Bool) → p x ≡ b → (sum_by (λ x. one_if (p x)) xs ≡ 0 → list_any p xs ≡ false) → (p x || list_any p xs) ≡ false
      by true e rest = let z = ap one_if e in absurd (omega (arith, s, z, h))
      by false e rest =
          let r : sum_by (λ x. one_if (p x)) xs ≡ 0 = omega (arith, s, h) in
          ap (λ v. v || list_any p xs) e ∙ rest r

  pub zero_from_all : (xs : List X) → All (λ x. p x ≢ true) xs → sum_by (λ x. one_if (p x)) xs ≡ 0
  zero_from_all [] h = refl
  zero_from_all (x ∷ xs) h =
      let s = sum_by-cons (λ x. one_if (p x)) x xs in
      let z = zero_for (p x) (All-head (λ x. p x ≢ true) x xs h) in
      let r = zero_from_all xs (All-tail (λ x. p x ≢ true) x xs h) in
      omega (arith, s, z, r)

-- ---- the last element

module _ {X : Type 0} where
  pub with_last : (xs : List X) (n : ℕ) (y : X) → n ≡ length xs → 0 < n → y ≡ get_or xs (n - 1) y → xs ≡ take (n - 1) xs ++ y ∷ []
  with_last xs n y count some last =
      let m : length xs ≡ n - 1 + 1 = omega (arith, count, some) in
      sym (take-length xs) ∙ (ap (λ k. take k xs) m ∙ (take_more xs (n - 1) y (omega (arith, count, some)) ∙ ap (λ v. take (n - 1) xs ++ v ∷ []) (sym last)))

  pub last_replaced : (xs : List X) (n : ℕ) (y : X) → n ≡ length xs → 0 < n → set xs (n - 1) y ≡ take (n - 1) xs ++ y ∷ []
  last_replaced xs n y count some =
      let l = length-set xs (n - 1) y in
      let m : length (set xs (n - 1) y) ≡ n - 1 + 1 = omega (arith, count, some, l) in
      sym (take-length (set xs (n - 1) y)) ∙ (ap (λ k. take k (set xs (n - 1) y)) m ∙ take_more_set xs (n - 1) y (omega (arith, count, some)))

  -- a list without a last element has none
  pub none_at_all : (xs : List X) (n : ℕ) → n ≡ length xs → (0 < n → ⊥) → xs ≡ []
  none_at_all [] n count none = refl
  none_at_all (x ∷ xs) n count none = absurd (none (omega (arith, count)))

  -- what is left without the last element
  pub without_last : (xs before : List X) (n : ℕ) (y : X) → n ≡ length xs → xs ≡ before ++ y ∷ [] → take (n - 1) xs ≡ before
  without_last xs before n y count ended =
      let l = length-append before (y ∷ []) in
      let e = ap length ended in
      let m : n - 1 ≡ length before = omega (arith, count, l, e) in
      ap (λ k. take k xs) m ∙ (ap (take (length before)) ended ∙ take-append_seam before (y ∷ []))

  -- the last element put in its own place
  pub last_put_back : (xs : List X) (n : ℕ) (y : X) → n ≡ length xs → 0 < n → y ≡ get_or xs (n - 1) y → set xs (n - 1) y ≡ xs
  last_put_back xs n y count some last = last_replaced xs n y count some ∙ sym (with_last xs n y count some last)

  inside_push : (xs : List X) (y : X) (k : ℕ) → k < length xs → k < length (xs ++ y ∷ [])
  inside_push xs y k lt = let l = length-append xs (y ∷ []) in omega (arith, l, lt)

  last_push : (xs : List X) (y : X) → length xs < length (xs ++ y ∷ [])
  last_push xs y = let l = length-append xs (y ∷ []) in omega (arith, l)

  pub all_before : (P : X → Type 0) (xs : List X) (y : X) → All P (xs ++ y ∷ []) → All P xs
  all_before P xs y all k d lt = subst P (get_or-append xs (y ∷ []) d k lt) (all k d (inside_push xs y k lt))

  pub of_last : (P : X → Type 0) (xs : List X) (y : X) → All P (xs ++ y ∷ []) → P y
  of_last P xs y all = subst P (get_or-append_seam xs y [] y) (all (length xs) y (last_push xs y))

  pub pairs_before : (R : X → X → Type 0) (xs : List X) (y : X) → AllPairs R (xs ++ y ∷ []) → AllPairs R xs
  pairs_before R xs y all i j d lt inside =
      let before : i < length xs = omega (arith, lt, inside) in
      subst (λ v. R v (get_or xs j d)) (get_or-append xs (y ∷ []) d i before)
      (subst (λ v. R (get_or (xs ++ y ∷ []) i d) v) (get_or-append xs (y ∷ []) d j inside) (all i j d lt (inside_push xs y j inside)))

  pub pairs_with_last : (R : X → X → Type 0) (xs : List X) (y : X) → AllPairs R (xs ++ y ∷ []) → All (λ x. R x y) xs
  pairs_with_last R xs y all k d lt =
      subst (λ v. R v y) (get_or-append xs (y ∷ []) d k lt)
      (subst (λ v. R (get_or (xs ++ y ∷ []) k d) v) (get_or-append_seam xs y [] d) (all k (length xs) d lt (last_push xs y)))

-- ---- each element and the next

abbrev pub AllAdjacent : {X : Type 0} → (X → X → Type 0) → List X → Type 0
AllAdjacent R xs = AllAdjacentBelow R xs (length xs)

module _ {X : Type 0} (R : X → X → Type 0) where
  pub adjacent_before : (xs : List X) (y : X) → AllAdjacent R (xs ++ y ∷ []) → AllAdjacent R xs
  adjacent_before xs y all k d lt =
      subst (λ v. R v (get_or xs (k + 1) d)) (get_or-append xs (y ∷ []) d k (omega (arith, lt)))
      (subst (λ v. R (get_or (xs ++ y ∷ []) k d) v) (get_or-append xs (y ∷ []) d (k + 1) lt) (all k d (inside_push xs y (k + 1) lt)))

  -- one more element, which has R to the last one
  pub adjacent_push : (xs : List X) (y z : X) → AllAdjacent R (xs ++ y ∷ []) → R y z → AllAdjacent R ((xs ++ y ∷ []) ++ z ∷ [])
  adjacent_push xs y z all one k d lt =
      let long = length-append (xs ++ y ∷ []) (z ∷ []) in
      let m = length-append xs (y ∷ []) in
      ⊎_elim
      (λ inside.
      subst (λ v. R v (get_or ((xs ++ y ∷ []) ++ z ∷ []) (k + 1) d)) (sym (get_or-append (xs ++ y ∷ []) (z ∷ []) d k (omega (arith, inside))))
      (subst (λ v. R (get_or (xs ++ y ∷ []) k d) v) (sym (get_or-append (xs ++ y ∷ []) (z ∷ []) d (k + 1) inside)) (all k d inside)))
      (λ past.
      let e : k ≡ length xs = omega (arith, long, m, lt, past) in
      let f : k + 1 ≡ length (xs ++ y ∷ []) = omega (arith, m, e) in
      let at_y : get_or ((xs ++ y ∷ []) ++ z ∷ []) k d ≡ y =
      get_or-append (xs ++ y ∷ []) (z ∷ []) d k (omega (arith, f)) ∙ (ap (λ n. get_or (xs ++ y ∷ []) n d) e ∙ get_or-append_seam xs y [] d) in
      let at_z : get_or ((xs ++ y ∷ []) ++ z ∷ []) (k + 1) d ≡ z = ap (λ n. get_or ((xs ++ y ∷ []) ++ z ∷ []) n d) f ∙ get_or-append_seam (xs ++ y ∷ []) z [] d in
      subst (λ v. R v (get_or ((xs ++ y ∷ []) ++ z ∷ []) (k + 1) d)) (sym at_y) (subst (R y) (sym at_z) one))
      (cases_lt (k + 1) (length (xs ++ y ∷ [])))

  -- a single element
  pub adjacent_one : (xs : List X) (y : X) → xs ≡ [] → AllAdjacent R (xs ++ y ∷ [])
  adjacent_one [] y none k d lt = absurd (omega (arith, lt))
  adjacent_one (x ∷ xs) y none k d lt = absurd cc

  -- another last element
  pub adjacent_changed : (xs : List X) (y z : X) → ((x : X) → R x y → R x z) → AllAdjacent R (xs ++ y ∷ []) → AllAdjacent R (xs ++ z ∷ [])
  adjacent_changed xs y z weaker all k d lt =
      let m = length-append xs (z ∷ []) in
      let n = length-append xs (y ∷ []) in
      let inside : k + 1 < length (xs ++ y ∷ []) = omega (arith, m, n, lt) in
      let first : k < length xs = omega (arith, m, lt) in
      let before : R (get_or xs k d) (get_or (xs ++ y ∷ []) (k + 1) d) =
      subst (λ v. R v (get_or (xs ++ y ∷ []) (k + 1) d)) (get_or-append xs (y ∷ []) d k first) (all k d inside) in
      subst (λ v. R v (get_or (xs ++ z ∷ []) (k + 1) d)) (sym (get_or-append xs (z ∷ []) d k first))
      (⊎_elim
      (λ lower.
      subst (R (get_or xs k d)) (sym (get_or-append xs (z ∷ []) d (k + 1) lower)) (subst (R (get_or xs k d)) (get_or-append xs (y ∷ []) d (k + 1) lower) before))
      (λ past.
      let e : k + 1 ≡ length xs = omega (arith, m, lt, past) in
      let at_y : get_or (xs ++ y ∷ []) (k + 1) d ≡ y = ap (λ n. get_or (xs ++ y ∷ []) n d) e ∙ get_or-append_seam xs y [] d in
      let at_z : get_or (xs ++ z ∷ []) (k + 1) d ≡ z = ap (λ n. get_or (xs ++ z ∷ []) n d) e ∙ get_or-append_seam xs z [] d in
      subst (R (get_or xs k d)) (sym at_z) (weaker (get_or xs k d) (subst (R (get_or xs k d)) at_y before)))
      (cases_lt (k + 1) (length xs)))
