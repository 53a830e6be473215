-- What is chosen among rows, and the first match of sorted rows.
use Rattle.std.proofs.Common.{◌≡◌, ℕ, ◌<◌, ◌==◌, ◌&&◌, ◌⊎◌, Bool, List, None, Option, Some, [], ◌∷◌, ap, arith, false, inl, inr, ltb, not, refl, subst, sym, true, ◌∙◌}
use Rattle.std.specs.List.{list_any, position, slice_get, slice_index_or}
use Rattle.std.specs.Cmp.{IsStrictWeakOrder}
use Rattle.std.proofs.lemmas.Bool.{and_cases, and_from, and_parts, and_right, both_ways, cases_Bool, false_from_ne_true, eqb-true, ltb-false, ltb-true, not-false, not-true, not_from_false, or_from, or_left, or_right}
use Rattle.std.proofs.lemmas.Bool.Decides.{nat_tests}
use Rattle.std.proofs.lemmas.List.Folds.{Any-from_list_any, list_any_at}
use Rattle.std.proofs.lemmas.List.Quantifiers.{position-Some}
use Rattle.std.proofs.lemmas.Option.{none-some, get_or_from_slice_get, slice_get-get_or, slice_get_within}
use Rattle.vpc_base.proofs.Positions.{position-None}
use Rattle.vpc_model.specs.Choice.{chosen_number, is_unbeaten}
use Rattle.vpc_laws.specs.Choice.{Chooses}

-- ---- orders

pub chain-true : {X : Type 0} (beats : X → X → Bool) → IsStrictWeakOrder beats → (x y z : X) → beats x y ≡ true → beats y z ≡ true → beats x z ≡ true
chain-true beats order x y z a b =
    elim (cases_Bool (beats x z)) [
      | inl so ↦ so
      | inr not_so ↦ absurd (both_ways (beats x y) (order.chain x z y not_so (order.one_way y z b)) a)
    ]

pub beats-self : {X : Type 0} (beats : X → X → Bool) → IsStrictWeakOrder beats → (x : X) → beats x x ≡ false
beats-self beats order x = false_from_ne_true (beats x x) (λ so. both_ways (beats x x) (order.one_way x x so) so)

-- what is beaten by a row that doesn't beat another, is beaten by the other
pub beats-through : {X : Type 0} (beats : X → X → Bool) → IsStrictWeakOrder beats → (x y z : X) → beats z y ≡ true → beats z x ≡ false → beats x y ≡ true
beats-through beats order x y z a b =
    elim (cases_Bool (beats x y)) [
      | inl so ↦ so
      | inr not_so ↦ absurd (both_ways (beats z y) (order.chain z x y b not_so) a)
    ]

-- ---- the best of a list

-- a candidate that no row of the list beats, and that is the row x, or beats it and is in the list
record IsBest {X : Type 0} (candidate : X → Bool) (beats : X → X → Bool) (x : X) (rows : List X) (b : X) : Type 0 where
  pub valid : candidate b ≡ true
  pub from : (b ≡ x) ⊎ (beats b x ≡ true)
  pub there : (test : X → Bool) → test b ≡ true → (test x ≡ true) ⊎ (list_any test rows ≡ true)
  pub unbeaten : list_any (λ y. candidate y && beats y b) rows ≡ false

best-more : {X : Type 0} (candidate : X → Bool) (beats : X → X → Bool) → IsStrictWeakOrder beats → (x y : X) (rows : List X) → candidate x ≡ true
    → ((z : X) → candidate z ≡ true → (b : X) × IsBest candidate beats z rows b) → (b : X) × IsBest candidate beats x (y ∷ rows) b
best-more candidate beats order x y rows at_x rest =
    elim (cases_Bool (candidate y && beats y x)) [
      | inl better ↦
          let parts = and_parts (candidate y) (beats y x) better in
          let found = rest y parts.0 in
          let b = found.0 in
          let is = found.1 in
          let not_back : beats y b ≡ false = elim is.from [ inl same ↦ subst (λ z. beats y z ≡ false) (sym same) (beats-self beats order y) | inr over ↦ order.one_way b y over ] in (
            b,
            record {
              valid = is.valid;
              from = inr (elim is.from [ inl same ↦ subst (λ z. beats z x ≡ true) (sym same) parts.1 | inr over ↦ chain-true beats order b y x over parts.1 ]);
              there = λ test e. inr (elim (is.there test e) [ inl here ↦ or_left (test y) (list_any test rows) here | inr later ↦ or_right (test y) (list_any test rows) later ]);
              unbeaten = or_from (candidate y && beats y b) (list_any (λ z. candidate z && beats z b) rows) (and_right (candidate y) (beats y b) not_back) is.unbeaten;
            },
          )
      | inr worse ↦
          let found = rest x at_x in
          let b = found.0 in
          let is = found.1 in
          let not_over : (candidate y && beats y b) ≡ false =
          false_from_ne_true (candidate y && beats y b) (λ so.
          let parts = and_parts (candidate y) (beats y b) so in
          let over : beats y x ≡ true = elim is.from [ inl same ↦ subst (λ z. beats y z ≡ true) same parts.1 | inr above ↦ chain-true beats order y b x parts.1 above ] in
          both_ways (candidate y && beats y x) worse (and_from (candidate y) (beats y x) parts.0 over)) in (
            b,
            record {
              valid = is.valid;
              from = is.from;
              there = λ test e. elim (is.there test e) [ inl here ↦ inl here | inr later ↦ inr (or_right (test y) (list_any test rows) later) ];
              unbeaten = or_from (candidate y && beats y b) (list_any (λ z. candidate z && beats z b) rows) not_over is.unbeaten;
            },
          )
    ]

best-of : {X : Type 0} (candidate : X → Bool) (beats : X → X → Bool) → IsStrictWeakOrder beats → (rows : List X) (x : X) → candidate x ≡ true → (b : X) × IsBest candidate beats x rows b
best-of candidate beats order [] x at_x = (x, record { valid = at_x; from = inl refl; there = λ test e. inl e; unbeaten = refl })
best-of candidate beats order (y ∷ rows) x at_x = best-more candidate beats order x y rows at_x (best-of candidate beats order rows)

-- where a row of the list is a candidate, some candidate is unbeaten
unbeaten-exists : {X : Type 0} (candidate : X → Bool) (beats : X → X → Bool) → IsStrictWeakOrder beats → (rows : List X) (j : ℕ) (y : X) → slice_get rows j ≡ Some y → candidate y ≡ true
    → list_any (is_unbeaten candidate beats rows) rows ≡ true
unbeaten-exists candidate beats order rows j y at_j at_y =
    let found = best-of candidate beats order rows y at_y in
    let b = found.0 in
    let is = found.1 in
    let good : is_unbeaten candidate beats rows b ≡ true = and_from (candidate b) (not (list_any (λ z. candidate z && beats z b) rows)) is.valid (not_from_false (list_any (λ z. candidate z && beats z b) rows) is.unbeaten) in
    elim (is.there (is_unbeaten candidate beats rows) good) [
      | inl itself ↦ list_any_at (is_unbeaten candidate beats rows) rows j y (slice_get_within rows j y at_j) (subst (λ z. is_unbeaten candidate beats rows z ≡ true) (sym (get_or_from_slice_get rows j y y at_j)) itself)
      | inr other ↦ other
    ]

-- ---- the chosen number

-- a row is beaten by another one, or stands behind it and neither beats the other
abbrev pub YieldsTo : {X : Type 0} → (X → X → Bool) → ℕ → X → ℕ → X → Type 0
YieldsTo beats j y k x = (beats x y ≡ true) ⊎ ((beats x y ≡ false) × (beats y x ≡ false) × (k < j))

pub list_any-get : {X : Type 0} (test : X → Bool) (xs : List X) (j : ℕ) (y : X) → list_any test xs ≡ false → slice_get xs j ≡ Some y → test y ≡ false
list_any-get test xs j y none at =
    false_from_ne_true (test y) (λ so.
    both_ways (list_any test xs) none
    (list_any_at test xs j y (slice_get_within xs j y at) (subst (λ z. test z ≡ true) (sym (get_or_from_slice_get xs j y y at)) so)))

chosen-none : {X : Type 0} (candidate : X → Bool) (beats : X → X → Bool) (rows : List X) → IsStrictWeakOrder beats → position (is_unbeaten candidate beats rows) rows ≡ None
    → (j : ℕ) (y : X) → slice_get rows j ≡ Some y → candidate y ≡ false
chosen-none candidate beats rows order none j y at =
    false_from_ne_true (candidate y) (λ so.
    let any = Any-from_list_any (is_unbeaten candidate beats rows) rows (unbeaten-exists candidate beats order rows j y at so) in
    let k = any.0 in
    let x = any.1 in
    let at_k : slice_get rows k ≡ Some x = slice_get-get_or rows k x any.2 ∙ ap Some any.3 in
    both_ways (is_unbeaten candidate beats rows x) (position-None (is_unbeaten candidate beats rows) rows k x none at_k) any.4)

chosen-some : {X : Type 0} (candidate : X → Bool) (beats : X → X → Bool) (rows : List X) → IsStrictWeakOrder beats → (k : ℕ) (x : X) → position (is_unbeaten candidate beats rows) rows ≡ Some k → slice_get rows k ≡ Some x
    → (candidate x ≡ true) × ((j : ℕ) (y : X) → slice_get rows j ≡ Some y → candidate y ≡ true → (j ≡ k) ⊎ YieldsTo beats j y k x)
chosen-some candidate beats rows order k x is at =
    let test = is_unbeaten candidate beats rows in
    let first = position-Some test rows k x is in
    let passes : test x ≡ true = subst (λ z. test z ≡ true) (get_or_from_slice_get rows k x x at) first.1 in
    let parts = and_parts (candidate x) (not (list_any (λ z. candidate z && beats z x) rows)) passes in
    let unbeaten = not-true (list_any (λ z. candidate z && beats z x) rows) parts.1 in (
      parts.0,
      λ j y at_j at_y.
          let under : (candidate y && beats y x) ≡ false = list_any-get (λ z. candidate z && beats z x) rows j y unbeaten at_j in
          let not_over : beats y x ≡ false = elim (and_cases (candidate y) (beats y x) under) [ inl not_so ↦ absurd (both_ways (candidate y) not_so at_y) | inr not_so ↦ not_so ] in
          elim (cases_Bool (beats x y)) [
            | inl over ↦ inr (inl over)
            | inr tied ↦ elim (cases_Bool (ltb j k)) [
              | inl before ↦
                  let fails : test y ≡ false = subst (λ z. test z ≡ false) (get_or_from_slice_get rows j y y at_j) ((position-Some test rows k y is).2 j (ltb-true j k before)) in
                  let beaten : list_any (λ z. candidate z && beats z y) rows ≡ true = elim (and_cases (candidate y) (not (list_any (λ z. candidate z && beats z y) rows)) fails) [
                    | inl not_so ↦ absurd (both_ways (candidate y) not_so at_y)
                    | inr not_so ↦ not-false (list_any (λ z. candidate z && beats z y) rows) not_so
                  ] in
                  let any = Any-from_list_any (λ z. candidate z && beats z y) rows beaten in
                  let z = any.1 in
                  let parts = and_parts (candidate z) (beats z y) any.4 in
                  let at_z : slice_get rows any.0 ≡ Some z = slice_get-get_or rows any.0 z any.2 ∙ ap Some any.3 in
                  let free = list_any-get (λ w. candidate w && beats w x) rows any.0 z unbeaten at_z in
                  let below : beats z x ≡ false = elim (and_cases (candidate z) (beats z x) free) [ inl not_so ↦ absurd (both_ways (candidate z) not_so parts.0) | inr not_so ↦ not_so ] in
                  inr (inl (beats-through beats order x y z parts.1 below))
              | inr after ↦
                  let most = ltb-false j k after in
                  elim (cases_Bool (j == k)) [
                    | inl same ↦ inl (eqb-true j k same)
                    | inr other ↦ inr (inr (tied, not_over, grind (arith, nat_tests)))
                  ]
            ]
          ],
    )

chosen-in : {X : Type 0} (candidate : X → Bool) (beats : X → X → Bool) (rows : List X) (k : ℕ) → chosen_number candidate beats rows ≡ Some k → (x : X) × (slice_get rows k ≡ Some x)
chosen-in candidate beats [] k is = absurd (none-some k is)
chosen-in candidate beats (r ∷ rows) k is =
    let first = position-Some (is_unbeaten candidate beats (r ∷ rows)) (r ∷ rows) k r is in
    (slice_index_or (r ∷ rows) k r, slice_get-get_or (r ∷ rows) k r first.0)

pub chooses-best : {X : Type 0} (candidate : X → Bool) (beats : X → X → Bool) (rows : List X) → IsStrictWeakOrder beats → (o : Option ℕ) → chosen_number candidate beats rows ≡ o → Chooses candidate (YieldsTo beats) rows o
chooses-best candidate beats rows order None is = chosen-none candidate beats rows order is
chooses-best candidate beats rows order (Some k) is =
    let at = chosen-in candidate beats rows k is in
    let good = chosen-some candidate beats rows order k at.0 is at.1 in
    (at.0, at.1, good.0, good.1)

-- what every candidate that yields does too
pub Chooses-as : {X : Type 0} (candidate : X → Bool) (Yields Other : ℕ → X → ℕ → X → Type 0) (rows : List X) → ((j : ℕ) (y : X) (k : ℕ) (x : X) → Yields j y k x → Other j y k x)
    → (o : Option ℕ) → Chooses candidate Yields rows o → Chooses candidate Other rows o
Chooses-as candidate Yields Other rows turn None none = none
Chooses-as candidate Yields Other rows turn (Some k) is =
    (is.0, is.1, is.2, λ j y at_j at_y. elim (is.3 j y at_j at_y) [ inl same ↦ inl same | inr yields ↦ inr (turn j y k is.0 yields) ])
