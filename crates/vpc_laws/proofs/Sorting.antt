-- The first match of rows that are sorted by number is the chosen row.
use Rattle.std.proofs.Common.{◌≡◌, ℕ, ◌&&◌, Bool, List, None, Option, Some, [], ◌∷◌, ap, arith, false, inl, inr, ltb, not, refl, subst, sym, true, ◌∙◌}
use Rattle.std.specs.Cmp.{IsStrictWeakOrder}
use Rattle.std.proofs.Math.Path.{fun_ext}
use Rattle.std.specs.List.{AllByRecursion, filter, find, list_any, position_or_len, slice_get, slice_index_or}
use Rattle.std.specs.List.Sorted.{IsPermutation, IsSortedBy, IsSortedByKey, IsStableBy, IsStableByKey, ties}
use Rattle.std.specs.Ordering.{is_lt, nat_cmp}
use Rattle.std.proofs.lemmas.Bool.{and_cases, or_from, and_from, and_left, and_parts, and_right, both_ways, cases_Bool, false_from_ne_true, ltb-false, ltb-true, or_left, or_parts, or_right}
use Rattle.std.proofs.lemmas.Bool.Decides.{nat_tests}
use Rattle.std.proofs.lemmas.List.Folds.{Any-from_list_any, find_at}
use Rattle.std.proofs.lemmas.List.Sorted.{list_any-IsPermutation, sorted_far}
use Rattle.std.proofs.lemmas.List.Sums.{fails_before_first}
use Rattle.std.proofs.lemmas.Option.{slice_get-get_or, get_or_from_slice_get}
use Rattle.vpc_base.proofs.Members.{AllByRecursion-weaker}
use Rattle.vpc_base.proofs.Tests.{find-nowhere}
use Rattle.vpc_laws.specs.Types.{AclRow, Dir, Header}
use Rattle.vpc_model.specs.Acls.{acl_matches, acl_verdict, verdict_of_row}
use Rattle.vpc_model.specs.Choice.{chosen, is_unbeaten}
use Rattle.vpc_laws.proofs.Books.{find-none}
use Rattle.vpc_laws.proofs.Choosing.{beats-self, beats-through, list_any-get}
use Rattle.vpc_laws.proofs.Rows.{is_before_acl, is_before_acl-order}

-- ---- searches

find-filter : {X : Type 0} (p q : X → Bool) (xs : List X) → find p (filter q xs) ≡ find (λ x. q x && p x) xs
find-filter p q [] = refl
find-filter p q (x ∷ xs) =
    elim (cases_Bool (q x)) [
      | inl kept ↦ elim (cases_Bool (p x)) [
        | inl passes ↦ rw (kept, passes) refl
        | inr fails ↦ rw (kept, fails) (find-filter p q xs)
      ]
      | inr dropped ↦ rw dropped (find-filter p q xs)
    ]

find-same : {X : Type 0} (p q : X → Bool) (xs : List X) → AllByRecursion (λ x. p x ≡ q x) xs → find p xs ≡ find q xs
find-same p q [] all = refl
find-same p q (x ∷ xs) all = rw (all.0, find-same p q xs all.1) refl

-- what the first match also passes may be asked besides
find-both : {X : Type 0} (p q : X → Bool) (m : X) → q m ≡ true → (xs : List X) → find p xs ≡ Some m → find (λ x. q x && p x) xs ≡ Some m
find-both p q m at_m [] e = e
find-both p q m at_m (x ∷ xs) e =
    elim (cases_Bool (p x)) [
      | inl passes ↦
          let one : Some x ≡ Some m = (rw passes at e) in
          let same : x ≡ m = cc in
          rw (subst (λ z. q z ≡ true) (sym same) at_m, passes) one
      | inr fails ↦ rw (and_right (q x) (p x) fails) (find-both p q m at_m xs (rw fails at e))
    ]

find-passes : {X : Type 0} (p : X → Bool) (xs : List X) (m : X) → find p xs ≡ Some m → (p m ≡ true) × (list_any p xs ≡ true)
find-passes p [] m e = absurd cc
find-passes p (x ∷ xs) m e =
    elim (cases_Bool (p x)) [
      | inl passes ↦
          let one : Some x ≡ Some m = (rw passes at e) in
          let same : x ≡ m = cc in
          (subst (λ z. p z ≡ true) same passes, or_left (p x) (list_any p xs) passes)
      | inr fails ↦ let rest = find-passes p xs m (rw fails at e) in (rest.0, or_right (p x) (list_any p xs) rest.1)
    ]

all-from_none : {X : Type 0} (p : X → Bool) (xs : List X) → list_any p xs ≡ false → AllByRecursion (λ x. p x ≡ false) xs
all-from_none p [] none = tt
all-from_none p (x ∷ xs) none = let parts = or_parts (p x) (list_any p xs) none in (parts.0, all-from_none p xs parts.1)

-- ---- sorted rows

two-args : {X : Type 0} (lt : X → X → Bool) (a b c d : X) → a ≡ c → b ≡ d → lt a b ≡ lt c d
two-args lt a b c d e f = cc

-- no candidate of a sorted list is before its first one
first-is_least : {X : Type 0} (candidate : X → Bool) (lt : X → X → Bool) → IsStrictWeakOrder lt → (xs : List X) → IsSortedBy lt xs → (m : X) → find candidate xs ≡ Some m → list_any (λ y. candidate y && lt y m) xs ≡ false
first-is_least candidate lt order xs sorted m first =
    false_from_ne_true (list_any (λ y. candidate y && lt y m) xs) (λ some.
    let any = Any-from_list_any (λ y. candidate y && lt y m) xs some in
    let k = any.0 in
    let y = any.1 in
    let parts = and_parts (candidate y) (lt y m) any.4 in
    let i = position_or_len candidate xs in
    let at_i : slice_get xs i ≡ Some m = sym (find_at candidate xs) ∙ first in
    let m_is = get_or_from_slice_get xs i m y at_i in
    elim (cases_Bool (ltb k i)) [
      | inl before ↦ both_ways (candidate y) (subst (λ z. candidate z ≡ false) any.3 (fails_before_first candidate xs k y (ltb-true k i before))) parts.0
      | inr after ↦
          let far : lt (slice_index_or xs k y) (slice_index_or xs i y) ≡ false = sorted_far lt order xs sorted i k y (ltb-false k i after) any.2 in
          let never : lt y m ≡ false = sym (two-args lt (slice_index_or xs k y) (slice_index_or xs i y) y m any.3 m_is) ∙ far in
          both_ways (lt y m) never parts.1
    ])

-- a row that a search found passes other tests of the list too
find-there : {X : Type 0} (p q : X → Bool) (xs : List X) (m : X) → find p xs ≡ Some m → q m ≡ true → list_any q xs ≡ true
find-there p q [] m e at = absurd cc
find-there p q (x ∷ xs) m e at =
    elim (cases_Bool (p x)) [
      | inl passes ↦
          let one : Some x ≡ Some m = (rw passes at e) in
          let same : x ≡ m = cc in
          or_left (q x) (list_any q xs) (subst (λ z. q z ≡ true) (sym same) at)
      | inr fails ↦ or_right (q x) (list_any q xs) (find-there p q xs m (rw fails at e) at)
    ]

none-unbeaten : {X : Type 0} (candidate : X → Bool) (lt : X → X → Bool) (all xs : List X) → list_any candidate xs ≡ false → list_any (is_unbeaten candidate lt all) xs ≡ false
none-unbeaten candidate lt all [] none = refl
none-unbeaten candidate lt all (x ∷ xs) none =
    let parts = or_parts (candidate x) (list_any candidate xs) none in
    or_from (is_unbeaten candidate lt all x) (list_any (is_unbeaten candidate lt all) xs) (and_left (candidate x) (not (list_any (λ y. candidate y && lt y x) all)) parts.0) (none-unbeaten candidate lt all xs parts.1)

-- a candidate that a best one isn't before is unbeaten exactly where it ties with the best one
unbeaten-ties : {X : Type 0} (candidate : X → Bool) (lt : X → X → Bool) → IsStrictWeakOrder lt → (xs : List X) (m : X) → candidate m ≡ true → ((q : X → Bool) → q m ≡ true → list_any q xs ≡ true)
    → list_any (λ y. candidate y && lt y m) xs ≡ false → (x : X) → (candidate x && lt x m) ≡ false → is_unbeaten candidate lt xs x ≡ (ties lt m x && candidate x)
unbeaten-ties candidate lt order xs m at_m there least x under =
    elim (cases_Bool (candidate x)) [
      | inr not_so ↦ rw not_so (sym (and_right (ties lt m x) false refl))
      | inl so ↦
          let not_over : lt x m ≡ false = elim (and_cases (candidate x) (lt x m) under) [ inl never ↦ absurd (both_ways (candidate x) never so) | inr never ↦ never ] in
          elim (cases_Bool (lt m x)) [
            | inl over ↦
                let beaten = there (λ y. candidate y && lt y x) (and_from (candidate m) (lt m x) at_m over) in
                rw (so, beaten, over) refl
            | inr tied ↦
                let unbeaten : list_any (λ y. candidate y && lt y x) xs ≡ false =
                false_from_ne_true (list_any (λ y. candidate y && lt y x) xs) (λ some.
                let any = Any-from_list_any (λ y. candidate y && lt y x) xs some in
                let z = any.1 in
                let parts = and_parts (candidate z) (lt z x) any.4 in
                let at_z : slice_get xs any.0 ≡ Some z = slice_get-get_or xs any.0 z any.2 ∙ ap Some any.3 in
                let free = list_any-get (λ w. candidate w && lt w m) xs any.0 z least at_z in
                let below : lt z m ≡ false = elim (and_cases (candidate z) (lt z m) free) [ inl never ↦ absurd (both_ways (candidate z) never parts.0) | inr never ↦ never ] in
                both_ways (lt m x) tied (beats-through lt order m x z parts.1 below)) in
                rw (so, unbeaten, tied, not_over) refl
          ]
    ]

-- the first match of sorted rows is the chosen row of the rows as they stood
pub find-sorted : {X : Type 0} (candidate : X → Bool) (lt : X → X → Bool) → IsStrictWeakOrder lt → (xs ys : List X) → IsPermutation xs ys → IsSortedBy lt ys → IsStableBy lt xs ys → (o : Option X) → find candidate ys ≡ o → chosen candidate lt xs ≡ o
find-sorted candidate lt order xs ys same sorted stable None none =
    let nobody : list_any candidate xs ≡ false = list_any-IsPermutation candidate xs ys same ∙ find-none candidate ys none in
    find-nowhere (is_unbeaten candidate lt xs) xs (none-unbeaten candidate lt xs xs nobody)
find-sorted {X = X} candidate lt order xs ys same sorted stable (Some m) first =
    let there : ((q : X → Bool) → q m ≡ true → list_any q xs ≡ true) = λ q at. list_any-IsPermutation q xs ys same ∙ find-there candidate q ys m first at in
    let passes = find-passes candidate ys m first in
    let least : list_any (λ y. candidate y && lt y m) xs ≡ false = list_any-IsPermutation (λ y. candidate y && lt y m) xs ys same ∙ first-is_least candidate lt order ys sorted m first in
    let alike = AllByRecursion-weaker (λ x. (candidate x && lt x m) ≡ false) (λ x. is_unbeaten candidate lt xs x ≡ (ties lt m x && candidate x)) (unbeaten-ties candidate lt order xs m passes.0 there least) xs
    (all-from_none (λ x. candidate x && lt x m) xs least) in
    let self = beats-self lt order m in
    let tied : ties lt m m ≡ true = rw self refl in
    find-same (is_unbeaten candidate lt xs) (λ x. ties lt m x && candidate x) xs alike
    ∙ sym (find-filter candidate (ties lt m) xs)
    ∙ ap (find candidate) (sym (stable m))
    ∙ find-filter candidate (ties lt m) ys
    ∙ find-both candidate (ties lt m) m tied ys first

-- ---- ACL rows

before-is : (a b : ℕ) → is_lt (nat_cmp a b) ≡ ltb a b
before-is a b = grind (arith, nat_tests)

pub acl_rows_may_be_sorted : (rows sorted : List AclRow) (dir : Dir) (h : Header) → IsPermutation rows sorted → IsSortedByKey (λ r. r.number) nat_cmp sorted → IsStableByKey (λ r. r.number) nat_cmp rows sorted
    → acl_verdict rows dir h ≡ verdict_of_row (find (acl_matches dir h) sorted)
acl_rows_may_be_sorted rows sorted dir h same by_number stable =
    let before : (AclRow → AclRow → Bool) = λ r s. is_lt (nat_cmp r.number s.number) in
    let one : before ≡ is_before_acl = fun_ext (λ r. fun_ext (λ s. before-is r.number s.number)) in
    ap verdict_of_row
    (find-sorted (acl_matches dir h) is_before_acl is_before_acl-order rows sorted same (subst (λ lt. IsSortedBy lt sorted) one by_number) (subst (λ lt. IsStableBy lt rows sorted) one stable)
    (find (acl_matches dir h) sorted) refl)
