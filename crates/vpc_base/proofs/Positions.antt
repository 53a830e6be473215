-- The number of the first item that passes a test.
use Rattle.std.proofs.Common.{◌∙◌, ◌∷◌, ◌≡◌, ◌≤◌, [], Bool, List, None, Some, ap, arith, cond, false, inl, inr, length, ltb, map, nat_lt, not, position, refl, subst, sym, true, ℕ}
use Rattle.std.specs.List.{Contains, list_any, position_or_len, slice_get, slice_index_or}
use Rattle.std.proofs.lemmas.Bool.{both_ways, cases_Bool, lt-ltb, ltb-false, ltb-true}
use Rattle.std.proofs.lemmas.Bool.Decides.{nat_tests}
use Rattle.std.proofs.lemmas.List.{length-map}
use Rattle.std.proofs.lemmas.List.Folds.{Any-from_list_any}
use Rattle.std.proofs.lemmas.List.Quantifiers.{position-Some}
use Rattle.std.proofs.lemmas.List.Sums.{fails_before_first, passes_at_first, prefix_len-le-length}
use Rattle.std.proofs.lemmas.Option.{get_or_from_slice_get, slice_get-get_or, slice_get_within}

pub list_any-position : {X : Type 0} (p : X → Bool) (xs : List X) → list_any p xs ≡ nat_lt (position_or_len p xs) (length xs)
list_any-position p [] = refl
list_any-position p (x ∷ xs) = by (p x) refl (list_any-position p xs)
  where
    by : (b : Bool) → p x ≡ b → list_any p xs ≡ nat_lt (position_or_len p xs) (length xs) → list_any p (x ∷ xs) ≡ nat_lt (position_or_len p (x ∷ xs)) (length (x ∷ xs))
    by true e h = rw e (grind (arith, nat_tests))
    by false e h = rw (e, h) (grind (arith, nat_tests))

-- what passes has a number
pub position-there : {X : Type 0} (p : X → Bool) (xs : List X) → list_any p xs ≡ true → position p xs ≡ Some (position_or_len p xs)
position-there p xs there = ap (λ b. cond b (Some (position_or_len p xs)) None) (sym (list_any-position p xs) ∙ there)

-- nothing that passes has none
pub position-nowhere : {X : Type 0} (p : X → Bool) (xs : List X) → list_any p xs ≡ false → position p xs ≡ None
position-nowhere p xs nowhere = ap (λ b. cond b (Some (position_or_len p xs)) None) (sym (list_any-position p xs) ∙ nowhere)

pub missing_number : {X : Type 0} (p : X → Bool) (xs : List X) → position p xs ≡ None → list_any p xs ≡ false
missing_number p xs h = by (nat_lt (position_or_len p xs) (length xs)) refl h
  where
    by : (b : Bool) → nat_lt (position_or_len p xs) (length xs) ≡ b → cond b (Some (position_or_len p xs)) None ≡ None → list_any p xs ≡ false
    by true e i = absurd (cc)
    by false e i = list_any-position p xs ∙ e

pub position-le : {X : Type 0} (p : X → Bool) (xs : List X) → position_or_len p xs ≤ length xs
position-le p xs = prefix_len-le-length (λ x. not (p x)) xs

-- a test of what is mapped finds the number that the test of the items finds
pub position_map : {X Y : Type 0} (f : X → Y) (p : Y → Bool) (q : X → Bool) → ((x : X) → p (f x) ≡ q x) → (xs : List X) → position p (map f xs) ≡ position q xs
position_map {X = X} f p q same xs =
    let agree : (λ x. p (f x)) ≡ q = λ i x. same x i in
    rw (within xs, length-map xs f) (ap (λ t. position t xs) agree)
  where
    within : (ys : List X) → position_or_len p (map f ys) ≡ position_or_len (λ x. p (f x)) ys
    within [] = refl
    within (y ∷ ys) = rw (within ys)

-- nothing passes where none was found
pub position-None : {X : Type 0} (test : X → Bool) (xs : List X) (j : ℕ) (y : X) → position test xs ≡ None → slice_get xs j ≡ Some y → test y ≡ false
position-None test xs j y e at =
    let inside = slice_get_within xs j y at in
    elim (cases_Bool (ltb (position_or_len test xs) (length xs))) [
      | inl found ↦ let some = (rw found at e) in cc
      | inr past ↦
          let least = ltb-false (position_or_len test xs) (length xs) past in
          subst (λ z. test z ≡ false) (get_or_from_slice_get xs j y y at) (fails_before_first test xs j y (omega arith))
    ]

pub position-none_member : {X : Type 0} (p : X → Bool) (xs : List X) (x : X) → position p xs ≡ None → Contains xs x → p x ≡ false
position-none_member p xs x e has = position-None p xs has.0 x e (slice_get-get_or xs has.0 x has.1 ∙ ap Some has.2)

-- what was found is in range, and passes
pub position-at : {X : Type 0} (p : X → Bool) (xs : List X) (k : ℕ) (d : X) → position p xs ≡ Some k → (ltb k (length xs) ≡ true) × (p (slice_index_or xs k d) ≡ true)
position-at p xs k d e = let first = position-Some p xs k d e in (lt-ltb k (length xs) first.0, first.1)

pub found-at : {X : Type 0} (p : X → Bool) (xs : List X) (d : X) → list_any p xs ≡ true → (ltb (position_or_len p xs) (length xs) ≡ true) × (p (slice_index_or xs (position_or_len p xs) d) ≡ true)
found-at p xs d some =
    let any = Any-from_list_any p xs some in
    elim (cases_Bool (ltb (position_or_len p xs) (length xs))) [
      | inl inside ↦ (inside, passes_at_first p xs d (ltb-true (position_or_len p xs) (length xs) inside))
      | inr past ↦
          let most = ltb-false (position_or_len p xs) (length xs) past in
          let below = any.2 in
          absurd (both_ways (p any.1) (subst (λ z. p z ≡ false) any.3 (fails_before_first p xs any.0 any.1 (omega arith))) any.4)
    ]
