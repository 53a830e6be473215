-- What route tables, transit gateway tables, prefix lists and ACLs choose.
use Rattle.std.proofs.Common.{◌≡◌, ℕ, ◌<◌, ◌==◌, ◌&&◌, ◌||◌, ◌⊎◌, Bool, List, None, Option, Some, ap, arith, false, inl, inr, length, ltb, not, refl, subst, sym, true, ◌∙◌, option_and_then, option_map}
use Rattle.std.specs.List.{Contains, list_any, position_or_len, slice_get}
use Rattle.std.specs.Cmp.{IsStrictWeakOrder}
use Rattle.std.proofs.lemmas.Bool.{and_cases, and_from, and_left, and_parts, and_right, both_ways, cases_Bool, ltb-false, ltb-true, not-false, not_from_false, not_from_true}
use Rattle.std.proofs.lemmas.Bool.Decides.{nat_tests}
use Rattle.std.proofs.lemmas.List.Folds.{Any-from_list_any, find_at}
use Rattle.std.proofs.lemmas.List.MinMax.{IsStrictWeakOrder-by_number, IsStrictWeakOrder-flip}
use Rattle.std.proofs.lemmas.Option.{get_or_from_slice_get, none-some, slice_get-get_or, slice_get_past, slice_get_within}
use Rattle.prefix_text.specs.Block.{holds}
use Rattle.vpc_laws.specs.Types.{AclRow, Block, Description, Dir, Header, Route, TgwRoute}
use Rattle.vpc_model.specs.declared.rows.Reach.TheVariants as reaches
use Rattle.vpc_model.specs.Acls.{acl_matches, acl_verdict, verdict_of_row}
use Rattle.vpc_model.specs.Choice.{chosen, chosen_number, is_unbeaten}
use Rattle.vpc_model.specs.Lookup.{entries_of}
use Rattle.vpc_model.specs.Routes.{beats, chosen_route, is_candidate, is_local, kind_of, match_length, matches}
use Rattle.vpc_model.specs.Transit.{beats_tgw, chosen_tgw_route}
use Rattle.vpc_laws.specs.Choice.{AclRowYields, Chooses, IsLongest, RouteYields, TgwRouteYields, chosen_acl_row, length_of}
use Rattle.vpc_laws.proofs.Choosing.{Chooses-as, YieldsTo, chooses-best}

-- ---- a greater length, or the same and a smaller kind

abbrev is_before : ℕ → ℕ → ℕ → ℕ → Bool
is_before m n k l = ltb n m || ((m == n) && ltb k l)

is_before-one_way : (m n k l : ℕ) → is_before m n k l ≡ true → is_before n m l k ≡ false
is_before-one_way m n k l e = grind (arith, nat_tests)

is_before-chain : (a b c k l m : ℕ) → is_before a b k l ≡ false → is_before b c l m ≡ false → is_before a c k m ≡ false
is_before-chain a b c k l m d e = grind (arith, nat_tests)

is_before-less : (m n k l : ℕ) → is_before m n k l ≡ true → (n < m) ⊎ ((n ≡ m) × (k < l))
is_before-less m n k l e =
    elim (cases_Bool (ltb n m)) [
      | inl longer ↦ inl (ltb-true n m longer)
      | inr other ↦ inr (grind (arith, nat_tests), grind (arith, nat_tests))
    ]

is_before-tied : (m n k l : ℕ) → is_before m n k l ≡ false → is_before n m l k ≡ false → (n ≡ m) × (l ≡ k)
is_before-tied m n k l d e = (grind (arith, nat_tests), grind (arith, nat_tests))

beats-order : (d : Description) (a : ℕ) → IsStrictWeakOrder (beats d a)
beats-order d a = record {
  one_way = λ x y e. is_before-one_way (length_of d a x) (length_of d a y) (kind_of x) (kind_of y) e;
  chain = λ x y z e f. is_before-chain (length_of d a x) (length_of d a y) (length_of d a z) (kind_of x) (kind_of y) (kind_of z) e f;
}

route-yields : (d : Description) (a j : ℕ) (s : Route) (k : ℕ) (r : Route) → YieldsTo (beats d a) j s k r → RouteYields d a j s k r
route-yields d a j s k r (inl over) = elim (is_before-less (length_of d a r) (length_of d a s) (kind_of r) (kind_of s) over) [ inl shorter ↦ inl shorter | inr (same, later) ↦ inr (same, inl later) ]
route-yields d a j s k r (inr (e, f, behind)) = let tied = is_before-tied (length_of d a r) (length_of d a s) (kind_of r) (kind_of s) e f in inr (tied.0, inr (tied.1, behind))

pub routes_are_chosen : (d : Description) (routes : List Route) (a : ℕ) → Chooses (is_candidate d routes a) (RouteYields d a) routes (chosen_route d routes a)
routes_are_chosen d routes a =
    Chooses-as (is_candidate d routes a) (YieldsTo (beats d a)) (RouteYields d a) routes (route-yields d a) (chosen_route d routes a)
    (chooses-best (is_candidate d routes a) (beats d a) routes (beats-order d a) (chosen_route d routes a) refl)

-- a local route that matches is a candidate
local-candidate : (d : Description) (routes : List Route) (a : ℕ) (l : Route) → (is_local l.target && matches d a l) ≡ true → is_candidate d routes a l ≡ true
local-candidate d routes a l e =
    let parts = and_parts (is_local l.target) (matches d a l) e in
    let others = list_any (λ (k : Route). is_local k.target && matches d a k) routes in
    let kept : ((l.propagated && not (is_local l.target)) && others) ≡ false =
    and_left (l.propagated && not (is_local l.target)) others (and_right l.propagated (not (is_local l.target)) (not_from_true (is_local l.target) parts.0)) in
    and_from (matches d a l) (not ((l.propagated && not (is_local l.target)) && others)) parts.1 (not_from_false ((l.propagated && not (is_local l.target)) && others) kept)

unchosen : (d : Description) (routes : List Route) (a : ℕ) (o : Option ℕ) → Chooses (is_candidate d routes a) (RouteYields d a) routes o → o ≡ None → (j : ℕ) (r : Route) → slice_get routes j ≡ Some r → is_candidate d routes a r ≡ false
unchosen d routes a None none e = none
unchosen d routes a (Some k) is e = absurd (none-some k (sym e))

pub unrouted_match_nothing : (d : Description) (routes : List Route) (a : ℕ) → chosen_route d routes a ≡ None → (j : ℕ) (r : Route) → slice_get routes j ≡ Some r → matches d a r ≡ false
unrouted_match_nothing d routes a e j r at =
    let none = unchosen d routes a (chosen_route d routes a) (routes_are_chosen d routes a) e in
    let local : Route → Bool = λ (k : Route). is_local k.target && matches d a k in
    let held = (r.propagated && not (is_local r.target)) && list_any local routes in
    elim (and_cases (matches d a r) (not held) (none j r at)) [
      | inl fails ↦ fails
      | inr back ↦
          let some = and_parts (r.propagated && not (is_local r.target)) (list_any local routes) (not-false held back) in
          let any = Any-from_list_any local routes some.1 in
          let l = any.1 in
          let at_l : slice_get routes any.0 ≡ Some l = slice_get-get_or routes any.0 l any.2 ∙ ap Some any.3 in
          absurd (both_ways (is_candidate d routes a l) (none any.0 l at_l) (local-candidate d routes a l any.4))
    ]

-- ---- transit routes

abbrev is_before_tgw : ℕ → ℕ → Bool → Bool → Bool
is_before_tgw m n k l = ltb n m || ((m == n) && (not k && l))

is_before_tgw-one_way : (m n : ℕ) (k l : Bool) → is_before_tgw m n k l ≡ true → is_before_tgw n m l k ≡ false
is_before_tgw-one_way m n true true e = grind (arith, nat_tests)
is_before_tgw-one_way m n true false e = grind (arith, nat_tests)
is_before_tgw-one_way m n false true e = grind (arith, nat_tests)
is_before_tgw-one_way m n false false e = grind (arith, nat_tests)

is_before_tgw-chain : (a b c : ℕ) (k l m : Bool) → is_before_tgw a b k l ≡ false → is_before_tgw b c l m ≡ false → is_before_tgw a c k m ≡ false
is_before_tgw-chain a b c true true true d e = grind (arith, nat_tests)
is_before_tgw-chain a b c true true false d e = grind (arith, nat_tests)
is_before_tgw-chain a b c true false true d e = grind (arith, nat_tests)
is_before_tgw-chain a b c true false false d e = grind (arith, nat_tests)
is_before_tgw-chain a b c false true true d e = grind (arith, nat_tests)
is_before_tgw-chain a b c false true false d e = grind (arith, nat_tests)
is_before_tgw-chain a b c false false true d e = grind (arith, nat_tests)
is_before_tgw-chain a b c false false false d e = grind (arith, nat_tests)

is_before_tgw-less : (m n : ℕ) (k l : Bool) → is_before_tgw m n k l ≡ true → (n < m) ⊎ ((n ≡ m) × ((k ≡ false) × (l ≡ true)))
is_before_tgw-less m n true true e = inl (grind (arith, nat_tests))
is_before_tgw-less m n true false e = inl (grind (arith, nat_tests))
is_before_tgw-less m n false false e = inl (grind (arith, nat_tests))
is_before_tgw-less m n false true e =
    elim (cases_Bool (ltb n m)) [ inl longer ↦ inl (ltb-true n m longer) | inr other ↦ inr (grind (arith, nat_tests), (refl, refl)) ]

is_before_tgw-tied : (m n : ℕ) (k l : Bool) → is_before_tgw m n k l ≡ false → is_before_tgw n m l k ≡ false → (n ≡ m) × (l ≡ k)
is_before_tgw-tied m n true true d e = (grind (arith, nat_tests), refl)
is_before_tgw-tied m n true false d e = absurd (grind (arith, nat_tests))
is_before_tgw-tied m n false true d e = absurd (grind (arith, nat_tests))
is_before_tgw-tied m n false false d e = (grind (arith, nat_tests), refl)

beats_tgw-order : IsStrictWeakOrder beats_tgw
beats_tgw-order = record {
  one_way = λ x y e. is_before_tgw-one_way x.block.length y.block.length x.propagated y.propagated e;
  chain = λ x y z e f. is_before_tgw-chain x.block.length y.block.length z.block.length x.propagated y.propagated z.propagated e f;
}

tgw_route-yields : (j : ℕ) (s : TgwRoute) (k : ℕ) (r : TgwRoute) → YieldsTo beats_tgw j s k r → TgwRouteYields j s k r
tgw_route-yields j s k r (inl over) =
    elim (is_before_tgw-less r.block.length s.block.length r.propagated s.propagated over) [ inl shorter ↦ inl shorter | inr (same, kinds) ↦ inr (same, inl kinds) ]
tgw_route-yields j s k r (inr (e, f, behind)) = let tied = is_before_tgw-tied r.block.length s.block.length r.propagated s.propagated e f in inr (tied.0, inr (tied.1, behind))

pub tgw_routes_are_chosen : (routes : List TgwRoute) (a : ℕ) → Chooses (λ r. holds a r.block) TgwRouteYields routes (chosen_tgw_route routes a)
tgw_routes_are_chosen routes a =
    Chooses-as (λ (r : TgwRoute). holds a r.block) (YieldsTo beats_tgw) TgwRouteYields routes tgw_route-yields (chosen_tgw_route routes a)
    (chooses-best (λ (r : TgwRoute). holds a r.block) beats_tgw routes beats_tgw-order (chosen_tgw_route routes a) refl)

-- ---- the chosen row itself

-- a row is found at its number
pub find-at_position : {X : Type 0} (candidate : X → Bool) (beats : X → X → Bool) (rows : List X) → chosen candidate beats rows ≡ option_and_then (slice_get rows) (chosen_number candidate beats rows)
find-at_position candidate beats rows =
    let test = is_unbeaten candidate beats rows in
    elim (cases_Bool (ltb (position_or_len test rows) (length rows))) [
      | inl inside ↦ rw inside (find_at test rows)
      | inr past ↦ rw past (find_at test rows ∙ slice_get_past rows (position_or_len test rows) (ltb-false (position_or_len test rows) (length rows) past))
    ]

-- ---- ACL rows

abbrev pub is_before_acl : AclRow → AclRow → Bool
is_before_acl r s = ltb r.number s.number

pub is_before_acl-order : IsStrictWeakOrder is_before_acl
is_before_acl-order = IsStrictWeakOrder-by_number (λ (r : AclRow). r.number)

acl_row-yields : (j : ℕ) (s : AclRow) (k : ℕ) (r : AclRow) → YieldsTo is_before_acl j s k r → AclRowYields j s k r
acl_row-yields j s k r (inl over) = inl (ltb-true r.number s.number over)
acl_row-yields j s k r (inr (e, f, behind)) =
    let a = ltb-false r.number s.number e in
    let b = ltb-false s.number r.number f in
    inr (omega arith, behind)

pub acl_rows_are_chosen : (rows : List AclRow) (dir : Dir) (h : Header)
    → Chooses (acl_matches dir h) AclRowYields rows (chosen_acl_row rows dir h)
    × (acl_verdict rows dir h ≡ verdict_of_row (option_and_then (slice_get rows) (chosen_acl_row rows dir h)))
acl_rows_are_chosen rows dir h = (
  Chooses-as (acl_matches dir h) (YieldsTo is_before_acl) AclRowYields rows acl_row-yields (chosen_acl_row rows dir h)
      (chooses-best (acl_matches dir h) is_before_acl rows is_before_acl-order (chosen_acl_row rows dir h) refl),
  ap verdict_of_row (find-at_position (acl_matches dir h) is_before_acl rows),
)

-- ---- prefix lists

abbrev is_longer : Block → Block → Bool
is_longer x y = ltb y.length x.length

is_longer-order : IsStrictWeakOrder is_longer
is_longer-order = IsStrictWeakOrder-flip (λ (x : Block) (y : Block). ltb x.length y.length) (IsStrictWeakOrder-by_number (λ (b : Block). b.length))

Contains-get : {X : Type 0} (xs : List X) (k : ℕ) (x : X) → slice_get xs k ≡ Some x → Contains xs x
Contains-get xs k x e = (k, slice_get_within xs k x e, get_or_from_slice_get xs k x x e)

longest-is : (a : ℕ) (entries : List Block) (k : Option ℕ) → Chooses (holds a) (YieldsTo is_longer) entries k → IsLongest a entries (option_map (λ (b : Block). b.length) (option_and_then (slice_get entries) k))
longest-is a entries None none = λ b has. none has.0 b (slice_get-get_or entries has.0 b has.1 ∙ ap Some has.2)
longest-is a entries (Some k) (x, at, holds_it, others) =
    subst (IsLongest a entries) (sym (ap (option_map (λ (b : Block). b.length)) at)) (
      (x, Contains-get entries k x at, holds_it, refl),
      λ b has held.
          let at_b : slice_get entries has.0 ≡ Some b = slice_get-get_or entries has.0 b has.1 ∙ ap Some has.2 in
          elim (others has.0 b at_b held) [
            | inl same ↦
                let one : Some b ≡ Some x = sym at_b ∙ ap (slice_get entries) same ∙ at in
                let equal : b ≡ x = cc in
                rw equal (omega arith)
            | inr (inl over) ↦ let less = ltb-true b.length x.length over in omega arith
            | inr (inr (e, f, behind)) ↦ ltb-false x.length b.length f
          ],
    )

pub lists_match_by_longest : (d : Description) (a : ℕ) (id : List ℕ) → IsLongest a (entries_of d id) (match_length d a (reaches.List id))
lists_match_by_longest d a id =
    let entries = entries_of d id in
    subst (IsLongest a entries) (sym (ap (option_map (λ (b : Block). b.length)) (find-at_position (holds a) is_longer entries)))
    (longest-is a entries (chosen_number (holds a) is_longer entries) (chooses-best (holds a) is_longer entries is_longer-order (chosen_number (holds a) is_longer entries) refl))
