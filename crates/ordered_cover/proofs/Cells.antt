-- Disjoint aligned boxes, each of which holds a cell of its own.
use Rattle.std.proofs.Common.{◌≡◌, ◌≢◌, ℕ, ◌≤◌, ◌<◌, ◌+◌, ◌==◌, Bool, true, false, nat_lt, List, [], ◌∷◌, All, get_or, length, map, suc, zero, refl, sym, ap, ◌∙◌, arith, sum_by}
use Rattle.std.proofs.lemmas.Bool.Decides.{nat_tests}
use Rattle.std.proofs.lemmas.List.Elements.{All-head, All-tail, All-map, All-cons}
use Rattle.std.proofs.lemmas.List.{length-map}
use Rattle.std.proofs.lemmas.List.Kept.{AllPairs-cons}
use Rattle.std.proofs.lemmas.List.Sums.{sum_by-cons}
use Rattle.std.specs.List.{AllPairs}
use Rattle.vpc_base.specs.Cuts.{CutLists}
use Rattle.vpc_base.proofs.Pairs.{AllPairs-map}
use Rattle.header_boxes.specs.Boxes.{holds, IsWithin, AreDisjoint, low_of}
use Rattle.header_boxes.specs.Cells.{IsAligned, cell_of, cells_of}
use Rattle.header_boxes.specs.declared.boxes.Box5.{Box5}
use Rattle.header_boxes.proofs.CellNumbers.{cell_of-lt-cells_of, whole_cell}
use Rattle.header_boxes.proofs.Held.{holds_low, holds_whole, valid_if_within}
use Rattle.ordered_cover.specs.Open.{one_if}
use Rattle.ordered_cover.proofs.Lists.{zero_from_all}

-- ---- different numbers below a bound
below_next : (x n : ℕ) → one_if (nat_lt x (suc n)) ≡ one_if (nat_lt x n) + one_if (x == n)
below_next x n = grind (arith, nat_tests)

is_below : (x n : ℕ) → x < n → one_if (nat_lt x n) ≡ 1
is_below x n h = grind (arith, nat_tests)

none_below : (x : ℕ) → nat_lt x 0 ≡ true → ⊥
none_below x h = grind (arith, nat_tests)

same_number : (x n : ℕ) → (x == n) ≡ true → x ≡ n
same_number x n h = grind (arith, nat_tests)

module _ {X : Type 0} (f : X → ℕ) where
  sum_below_next : (xs : List X) (n : ℕ) → sum_by (λ x. one_if (nat_lt (f x) (suc n))) xs ≡ sum_by (λ x. one_if (nat_lt (f x) n)) xs + sum_by (λ x. one_if (f x == n)) xs
  sum_below_next [] n = refl
  sum_below_next (x ∷ xs) n =
      let s = sum_by-cons (λ x. one_if (nat_lt (f x) (suc n))) x xs in
      let t = sum_by-cons (λ x. one_if (nat_lt (f x) n)) x xs in
      let u = sum_by-cons (λ x. one_if (f x == n)) x xs in
      let b = below_next (f x) n in
      let r = sum_below_next xs n in
      omega (arith, s, t, u, b, r)

  one_alike : (xs : List X) (n : ℕ) → AllPairs (λ x y. f x ≢ f y) xs → sum_by (λ x. one_if (f x == n)) xs ≤ 1
  one_alike [] n apart = omega arith
  one_alike (x ∷ xs) n apart = by (f x == n) refl (one_alike xs n (λ i j d lt inside. apart (suc i) (suc j) d (omega arith) (omega arith)))
    where
      s : sum_by (λ y. one_if (f y == n)) (x ∷ xs) ≡ one_if (f x == n) + sum_by (λ y. one_if (f y == n)) xs
      s = sum_by-cons (λ y. one_if (f y == n)) x xs

      by : (t : Bool) → (f x == n) ≡ t → sum_by (λ y. one_if (f y == n)) xs ≤ 1 → sum_by (λ y. one_if (f y == n)) (x ∷ xs) ≤ 1
      by true e rest =
          let z : sum_by (λ y. one_if (f y == n)) xs ≡ 0 = zero_from_all (λ y. f y == n) xs
          (λ k d lt t. apart 0 (suc k) d (omega arith) (omega arith) (same_number (f x) n e ∙ sym (same_number (f (get_or xs k d)) n t))) in
          let o = ap one_if e in
          omega (arith, s, z, o)
      by false e rest = let o = ap one_if e in omega (arith, s, rest, o)

  few_below : (xs : List X) (n : ℕ) → AllPairs (λ x y. f x ≢ f y) xs → sum_by (λ x. one_if (nat_lt (f x) n)) xs ≤ n
  few_below xs zero apart = let z = zero_from_all (λ x. nat_lt (f x) 0) xs (λ k d lt t. none_below (f (get_or xs k d)) t) in omega (arith, z)
  few_below xs (suc n) apart = let s = sum_below_next xs n in let o = one_alike xs n apart in let r = few_below xs n apart in omega (arith, s, o, r)

  all_below : (xs : List X) (n : ℕ) → All (λ x. f x < n) xs → sum_by (λ x. one_if (nat_lt (f x) n)) xs ≡ length xs
  all_below [] n h = refl
  all_below (x ∷ xs) n h =
      let s = sum_by-cons (λ x. one_if (nat_lt (f x) n)) x xs in
      let o = is_below (f x) n (All-head (λ x. f x < n) x xs h) in
      let r = all_below xs n (All-tail (λ x. f x < n) x xs h) in
      omega (arith, s, o, r)

  -- the pigeonhole principle
  pub length-le-bound : (xs : List X) (n : ℕ) → All (λ x. f x < n) xs → AllPairs (λ x y. f x ≢ f y) xs → length xs ≤ n
  length-le-bound xs n below apart = let a = all_below xs n below in let b = few_below xs n apart in omega (arith, a, b)

-- ---- boxes
-- there are no more disjoint aligned boxes than cells
pub boxes_within_cells : (cuts : CutLists) (sides : Box5) (boxes : List Box5) → All (λ b. IsWithin b sides) boxes → All (λ b. IsAligned cuts b sides) boxes → AllPairs AreDisjoint boxes
    → length boxes ≤ cells_of cuts sides
boxes_within_cells cuts sides boxes within aligned disjoint =
    length-le-bound (λ b. cell_of cuts sides (low_of b)) boxes (cells_of cuts sides) (λ k d lt. cell_of-lt-cells_of cuts sides (low_of (get_or boxes k d)) (around k d lt))
    (λ i j d lt inside same.
    let first : i < length boxes = omega arith in
    disjoint i j d lt inside (low_of (get_or boxes j d))
    (whole_cell cuts (get_or boxes i d) sides (low_of (get_or boxes i d)) (low_of (get_or boxes j d)) (within i d first) (aligned i d first) (here i d first) (around j d inside) (sym same))
    (here j d inside))
  where
    here : (k : ℕ) (d : Box5) → k < length boxes → holds (low_of (get_or boxes k d)) (get_or boxes k d) ≡ true
    here k d lt = holds_low (get_or boxes k d) (valid_if_within (get_or boxes k d) sides (within k d lt))

    around : (k : ℕ) (d : Box5) → k < length boxes → holds (low_of (get_or boxes k d)) sides ≡ true
    around k d lt = holds_whole (low_of (get_or boxes k d)) (get_or boxes k d) sides (within k d lt) (here k d lt)

-- so one more disjoint aligned box than parts of rows needs more cells than rows
pub more_cells : {R : Type 0} (part : R → Box5) (cuts : CutLists) (sides b : Box5) (rows : List R) → All (λ r. IsWithin (part r) sides) rows → All (λ r. IsAligned cuts (part r) sides) rows
    → AllPairs (λ x y. AreDisjoint (part x) (part y)) rows → IsWithin b sides → IsAligned cuts b sides → All (λ r. AreDisjoint b (part r)) rows
    → length rows < cells_of cuts sides
more_cells part cuts sides b rows within aligned disjoint b_within b_aligned b_disjoint =
    let boxes = b ∷ map part rows in
    let l = boxes_within_cells cuts sides boxes
    (All-cons (λ x. IsWithin x sides) b (map part rows) b_within (All-map (λ x. IsWithin x sides) part rows within))
    (All-cons (λ x. IsAligned cuts x sides) b (map part rows) b_aligned (All-map (λ x. IsAligned cuts x sides) part rows aligned))
    (AllPairs-cons AreDisjoint b (map part rows) (All-map (AreDisjoint b) part rows b_disjoint) (AllPairs-map AreDisjoint part rows disjoint)) in
    let m = length-map rows part in
    omega (arith, l, m)
