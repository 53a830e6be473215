-- Rows and boxes that hold a header, counted.
use Rattle.std.proofs.Common.{◌≡◌, ◌≢◌, ◌≤◌, ◌<◌, ◌+◌, ◌++◌, ◌∷◌, ◌||◌, [], All, AllPairs, Bool, Contains, List, ap, arith, cond, false, filter, get_or, length, nat_le, refl, subst, suc, sum_by, sym, take, true, zero, ℕ, ◌∙◌}
use Rattle.std.proofs.lemmas.Bool.Decides.{nat_tests}
use Rattle.std.proofs.lemmas.List.Elements.{All-cons, All-head, All-nil, All-tail}
use Rattle.std.proofs.lemmas.List.Folds.{Any-from_list_any}
use Rattle.std.proofs.lemmas.List.Sums.{sum_by-append, sum_by-cons, sum_by-take-le, sum_by_more_le}
use Rattle.std.proofs.lemmas.List.{get_or-take, length-take-le}
use Rattle.std.specs.List.{list_any}
use Rattle.vpc_base.specs.declared.headers.Header.{Header}
use Rattle.header_boxes.specs.Boxes.{AreDisjoint, holds}
use Rattle.header_boxes.specs.declared.boxes.Box5.{Box5}
use Rattle.header_boxes.specs.declared.rows.Row.{Row}
use Rattle.ordered_cover.proofs.Lists.{any_from_one, one_at, zero_from_all}
use Rattle.ordered_cover.specs.Open.{holders, one_if, row_holders}

-- ---- filters

module _ {X : Type 0} (f : X → ℕ) (p : X → Bool) where
  one_kept : (x : X) (xs ys : List X) (b : Bool) → sum_by f ys ≤ sum_by f xs → sum_by f (cond b (x ∷ ys) ys) ≤ sum_by f (x ∷ xs)
  one_kept x xs ys true le = let s = sum_by-cons f x ys in let t = sum_by-cons f x xs in omega (arith, s, t, le)
  one_kept x xs ys false le = let t = sum_by-cons f x xs in omega (arith, t, le)

  -- some of the elements add up to no more
  pub sum_by-filter-le : (xs : List X) → sum_by f (filter p xs) ≤ sum_by f xs
  sum_by-filter-le [] = omega arith
  sum_by-filter-le (x ∷ xs) = one_kept x xs (filter p xs) (p x) (sum_by-filter-le xs)

module _ {X : Type 0} (p : X → Bool) where
  length_one : (x : X) (xs ys : List X) (b : Bool) → length ys ≤ length xs → length (cond b (x ∷ ys) ys) ≤ length (x ∷ xs)
  length_one x xs ys true le = omega (arith, le)
  length_one x xs ys false le = omega (arith, le)

  pub length-filter-le : (xs : List X) → length (filter p xs) ≤ length xs
  length-filter-le [] = omega arith
  length-filter-le (x ∷ xs) = length_one x xs (filter p xs) (p x) (length-filter-le xs)

  keeps_first : (x : X) (xs : List X) (b : Bool) → b ≡ true → cond b (x ∷ xs) xs ≡ x ∷ xs
  keeps_first x xs true is = refl
  keeps_first x xs false is = absurd cc

  -- all elements pass
  pub filter_all : (xs : List X) → All (λ x. p x ≡ true) xs → filter p xs ≡ xs
  filter_all [] all = refl
  filter_all (x ∷ xs) all =
      keeps_first x (filter p xs) (p x) (All-head (λ y. p y ≡ true) x xs all) ∙ ap (λ (l : List X). x ∷ l) (filter_all xs (All-tail (λ y. p y ≡ true) x xs all))

-- ---- how many pass

module _ {X : Type 0} (p : X → Bool) where
  pub one_from_any : (xs : List X) → list_any p xs ≡ true → 1 ≤ sum_by (λ x. one_if (p x)) xs
  one_from_any xs is = let a = Any-from_list_any p xs is in one_at p xs a.0 a.1 a.2 (ap p a.3 ∙ a.4)

  pub none_from_any : (xs : List X) → list_any p xs ≡ false → sum_by (λ x. one_if (p x)) xs ≡ 0
  none_from_any xs is = by (nat_le 1 (sum_by (λ x. one_if (p x)) xs)) refl
    where
      by : (b : Bool) → nat_le 1 (sum_by (λ x. one_if (p x)) xs) ≡ b → sum_by (λ x. one_if (p x)) xs ≡ 0
      by true e = let some = any_from_one p xs (grind (arith, nat_tests)) in let same = sym some ∙ is in absurd cc
      by false e = grind (arith, nat_tests)

  -- two of them are two
  pub two_at : (xs : List X) (i j : ℕ) (d : X) → i < j → j < length xs → p (get_or xs i d) ≡ true → p (get_or xs j d) ≡ true → 2 ≤ sum_by (λ x. one_if (p x)) xs
  two_at xs i j d lt inside one other =
      let n = length-take-le j xs (omega arith) in
      let before = one_at p (take j xs) i d (omega (arith, n, lt)) (ap p (get_or-take j xs i d lt) ∙ one) in
      let more = sum_by_more_le (λ x. one_if (p x)) xs j d inside in
      let o = ap one_if other in
      omega (arith, before, more, o)

  -- what passes has none before it where one alone passes
  pub none_before : (xs : List X) (k : ℕ) (d : X) → k < length xs → p (get_or xs k d) ≡ true → sum_by (λ x. one_if (p x)) xs ≤ 1 → sum_by (λ x. one_if (p x)) (take k xs) ≡ 0
  none_before xs k d inside one few =
      let more = sum_by_more_le (λ x. one_if (p x)) xs k d inside in
      let o = ap one_if one in
      omega (arith, more, o, few)

-- ---- boxes

module _ {X : Type 0} (part : X → Box5) where
  abbrev counted : List X → Header → ℕ
  counted xs h = sum_by (λ x. one_if (holds h (part x))) xs

  -- where each header is in one at most, they are disjoint
  pub disjoint_by_count : (xs : List X) → ((h : Header) → counted xs h ≤ 1) → AllPairs (λ a b. AreDisjoint (part a) (part b)) xs
  disjoint_by_count xs few i j d lt inside h one other =
      let two = two_at (λ x. holds h (part x)) xs i j d lt inside one other in
      let f = few h in
      absurd (omega (arith, two, f))

  -- and the other way round
  pub count_by_disjoint : (xs : List X) → AllPairs (λ a b. AreDisjoint (part a) (part b)) xs → (h : Header) → counted xs h ≤ 1
  count_by_disjoint [] apart h = omega arith
  count_by_disjoint (x ∷ xs) apart h = by (holds h (part x)) refl (count_by_disjoint xs (λ i j d lt inside. apart (suc i) (suc j) d (omega arith) (omega arith)) h)
    where
      s : counted (x ∷ xs) h ≡ one_if (holds h (part x)) + counted xs h
      s = sum_by-cons (λ y. one_if (holds h (part y))) x xs

      by : (b : Bool) → holds h (part x) ≡ b → counted xs h ≤ 1 → counted (x ∷ xs) h ≤ 1
      by true e rest =
          let z = zero_from_all (λ y. holds h (part y)) xs (λ k d lt other. apart 0 (suc k) d (omega arith) (omega arith) h e other) in
          let o = ap one_if e in
          omega (arith, s, z, o)
      by false e rest = let o = ap one_if e in omega (arith, s, rest, o)
