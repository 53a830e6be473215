-- Groups with fewer rules allow nothing that was not allowed, and no less where the others allow nothing.
use Rattle.std.proofs.Common.{◌≡◌, ◌∙◌, ◌&&◌, ◌||◌, ◌∷◌, [], Bool, List, None, Option, Some, ap, ap₂, cond, false, filter, inl, inr, length, map, refl, subst, sym, true, ℕ}
use Rattle.std.specs.List.{list_any, position, position_or_len}
use Rattle.std.specs.Prelude.{bytes_eq, nat_lt, option_and_then, option_map}
use Rattle.std.proofs.lemmas.Bool.{both_ways, cases_Bool, ltb-true}
use Rattle.std.proofs.lemmas.List.Folds.{list_any_at}
use Rattle.std.proofs.lemmas.List.Sums.{passes_at_first}
use Rattle.vpc_base.proofs.Options.{option_map-None}
use Rattle.vpc_base.proofs.Positions.{found-at}
use Rattle.vpc_base.proofs.Tests.{list_any-agree}
use Rattle.copied_rows.specs.Filters.{with_filters}
use Rattle.vpc_laws.specs.Types.{Description, Dir, Group, GroupNo, GroupVpc, Header, Interface, Permission}
use Rattle.vpc_model.specs.Choice.{or_else}
use Rattle.vpc_model.specs.Filter.{far_address, is_between, matches_proto}
use Rattle.vpc_model.specs.Groups.{first_rule, first_rule_of, is_member, may_name, names_address, permission_allows, permissions_of, reference_counts, rule_of_group, vpc_of_rules, vpcs_of_group}
use Rattle.vpc_model.specs.Lookup.{entries_of, group_at, group_of_id, is_listed, no_group, vpc_of_interface}
use Rattle.prefix_text.specs.Block.{holds}
use Rattle.unused_rules.proofs.Alike.{Alike, get_or-alike, list_any-alike, position-alike}
use Rattle.unused_rules.proofs.Fewer.{FewerRules, rules-part, same-rules}
use Rattle.unused_rules.proofs.Parts.{none-part}
use Rattle.unused_rules.proofs.Removed.{and-first}
use Rattle.unused_rules.specs.Concerned.{filter_of_permission, matches_ports}

-- ---- searches that find nothing

none-passes : {X : Type 0} (p : X → Bool) (none : X) (xs : List X) → position p xs ≡ None → list_any p xs ≡ false
none-passes p none xs e =
    elim (cases_Bool (list_any p xs)) [
      | inl some ↦ let found = found-at p xs none some in absurd
          (some-is-none (nat_lt (position_or_len p xs) (length xs)) (position_or_len p xs) found.0 e)
      | inr fails ↦ fails
    ]
  where
    some-is-none : (below : Bool) (k : ℕ) → below ≡ true → cond below (Some k) None ≡ None → ⊥
    some-is-none true k is e = absurd (cc)
    some-is-none false k is e = absurd (cc)

none-found : {X : Type 0} (p : X → Bool) (none : X) (xs : List X) → list_any p xs ≡ false → position p xs ≡ None
none-found p none xs e =
    elim (cases_Bool (nat_lt (position_or_len p xs) (length xs))) [
      | inl below ↦
          let at = ltb-true (position_or_len p xs) (length xs) below in
          absurd (both_ways (list_any p xs) e (list_any_at p xs (position_or_len p xs) none at (passes_at_first p xs none at)))
      | inr past ↦ no-place (nat_lt (position_or_len p xs) (length xs)) (position_or_len p xs) past
    ]
  where
    no-place : (below : Bool) (k : ℕ) → below ≡ false → cond below (Some k) None ≡ None
    no-place true k is = absurd (cc)
    no-place false k is = refl

no-map : {X Y : Type 0} (f : X → Y) (o : Option X) → o ≡ None → option_map f o ≡ None
no-map f None e = refl
no-map f (Some x) e = absurd (cc)

first-none : {X : Type 0} (a b : Option X) → or_else a b ≡ None → (a ≡ None) × (b ≡ None)
first-none None b e = (refl, e)
first-none (Some x) b e = absurd (cc)

both-none : {X : Type 0} (a b : Option X) → a ≡ None → b ≡ None → or_else a b ≡ None
both-none None b first second = second
both-none (Some x) b first second = absurd (cc)

-- ---- what a rule allows

-- of two descriptions that differ in the rules of their groups alone, the second with fewer
module _ (d : Description) (more less : List Group) (fewer : Alike FewerRules more less) where
  abbrev one : Description
  one = with_filters d d.acls more

  abbrev other : Description
  other = with_filters d d.acls less

  vpcs-same : (a b : Group) → FewerRules a b → vpcs_of_group d a ≡ vpcs_of_group d b
  vpcs-same a b r =
      ap₂ (λ (id v : List ℕ). v ∷ map (λ (x : GroupVpc). x.vpc) (filter (λ (x : GroupVpc). bytes_eq x.group id) d.scope.vpcs)) r.id r.vpc

  own-same : (e : Interface) (a b : Group) → FewerRules a b → vpc_of_rules one e a ≡ vpc_of_rules other e b
  own-same e a b r =
      let v = vpc_of_interface d e in
      ap₂ (λ (vs : List (List ℕ)) (own : List ℕ). cond (is_listed v vs) v own) (vpcs-same a b r) r.vpc

  counts-same : (dir : Dir) (vpc group : List ℕ) → reference_counts one dir vpc group ≡ reference_counts other dir vpc group
  counts-same dir vpc group =
      list_any-alike FewerRules (λ (g : Group). bytes_eq g.id group && list_any (may_name d dir vpc) (vpcs_of_group d g))
      (λ a b r. ap₂ (λ (id : List ℕ) (vs : List (List ℕ)). bytes_eq id group && list_any (may_name d dir vpc) vs) r.id (vpcs-same a b r))
      more less fewer

  names-same : (dir : Dir) (vpc : List ℕ) (a : ℕ) (p : Permission) → names_address one dir vpc a p ≡ names_address other dir vpc a p
  names-same dir vpc a p =
      ap (λ (b : Bool). list_any (holds a) p.blocks || (list_any (λ l. list_any (holds a) (entries_of d l)) p.lists || b))
      (list_any-agree (λ g. reference_counts one dir vpc g && is_member d g a) (λ g. reference_counts other dir vpc g && is_member d g a)
      (λ g. ap (λ (b : Bool). b && is_member d g a) (counts-same dir vpc g)) p.groups)

  allows-same : (vpc : List ℕ) (dir : Dir) (h : Header) (p : Permission)
      → permission_allows one vpc dir h p ≡ permission_allows other vpc dir h p
  allows-same vpc dir h p =
      ap (λ (b : Bool). matches_proto p.proto h.proto && (is_between p.q_from p.q_to h.q && b)) (names-same dir vpc (far_address dir h) p)

  group-fewer : (n : GroupNo) → FewerRules (group_at one n) (group_at other n)
  group-fewer n = get_or-alike FewerRules no_group (same-rules no_group) more less n.0 fewer

  number-same : (id : List ℕ) → group_of_id one id ≡ group_of_id other id
  number-same id =
      ap (option_map (λ (k : ℕ). record {
        0 =
            k;
      })) (position-alike FewerRules (λ (g : Group). bytes_eq g.id id) (λ a b r. ap (λ (i : List ℕ). bytes_eq i id) r.id)
      more less fewer)

  -- ---- the first rule that allows a header

  none-of-group : (e : Interface) (dir : Dir) (h : Header) (n : GroupNo) → rule_of_group one e dir h n ≡ None
      → rule_of_group other e dir h n ≡ None
  none-of-group e dir h n none =
      let a = group_at one n in
      let b = group_at other n in
      let r = group-fewer n in
      let v = vpc_of_rules one e a in
      let w = vpc_of_rules other e b in
      let no_permission : Permission = record { id = None; proto = None; q_from = 1; q_to = 0; blocks = []; lists = []; groups = [] } in
      let before : list_any (permission_allows one v dir h) (permissions_of dir a) ≡ false = none-passes _ no_permission
      (permissions_of dir a) (option_map-None _ _ none) in
      let part : list_any (permission_allows one v dir h) (permissions_of dir b) ≡ false = none-part (permission_allows one v dir h)
      (rules-part dir a b r) before in
      let moved : list_any (permission_allows one w dir h) (permissions_of dir b) ≡ false = subst
      (λ (u : List ℕ). list_any (permission_allows one u dir h) (permissions_of dir b) ≡ false) (own-same e a b r) part in
      let after : list_any (permission_allows other w dir h) (permissions_of dir b) ≡ false =
      sym (list_any-agree (permission_allows one w dir h) (permission_allows other w dir h) (allows-same w dir h)
      (permissions_of dir b)) ∙ moved in
      no-map _ _ (none-found (permission_allows other w dir h) no_permission (permissions_of dir b) after)

  none-of-number : (e : Interface) (dir : Dir) (h : Header) (n : Option GroupNo) → option_and_then (rule_of_group one e dir h) n ≡ None
      → option_and_then (rule_of_group other e dir h) n ≡ None
  none-of-number e dir h None none = refl
  none-of-number e dir h (Some n) none = none-of-group e dir h n none

  none-of-groups : (e : Interface) (dir : Dir) (h : Header) (ids : List (List ℕ)) → first_rule_of one e dir h ids ≡ None
      → first_rule_of other e dir h ids ≡ None
  none-of-groups e dir h [] none = refl
  none-of-groups e dir h (id ∷ ids) none =
      let parts = first-none (option_and_then (rule_of_group one e dir h) (group_of_id one id)) (first_rule_of one e dir h ids) none in
      both-none (option_and_then (rule_of_group other e dir h) (group_of_id other id)) (first_rule_of other e dir h ids)
      (subst (λ (n : Option GroupNo). option_and_then (rule_of_group other e dir h) n ≡ None) (number-same id)
      (none-of-number e dir h (group_of_id one id) parts.0))
      (none-of-groups e dir h ids parts.1)

  -- where none allows it with more rules, none does with fewer
  pub none_allows : (e : Interface) (dir : Dir) (h : Header) → first_rule one e dir h ≡ None → first_rule other e dir h ≡ None
  none_allows e dir h none = none-of-groups e dir h e.groups none

-- ---- where the rules that are gone don't match

-- what fails all rules that are left, and those that don't match the header by protocol and q, fails all
pub record LosesUnmatched (h : Header) (a b : Group) : Type 0 where
  pub back : (dir : Dir) (test : Permission → Bool) → ((p : Permission) → matches_ports (filter_of_permission p) h ≡ false → test p ≡ false)
      → list_any test (permissions_of dir b) ≡ false → list_any test (permissions_of dir a) ≡ false

pub loses_nothing : (h : Header) (g : Group) → LosesUnmatched h g g
loses_nothing h g = record { back = λ dir test fails none. none }

pub and-later : (a b c : Bool) → (a && b) ≡ false → (a && (b && c)) ≡ false
and-later true b c e = and-first b c e
and-later false b c e = refl

module _ (d : Description) (more less : List Group) (fewer : Alike FewerRules more less) (h : Header)
    (lost : Alike (LosesUnmatched h) more less) where
  abbrev all : Description
  all = with_filters d d.acls more

  abbrev left : Description
  left = with_filters d d.acls less

  all-of-group : (e : Interface) (dir : Dir) (n : GroupNo) → rule_of_group left e dir h n ≡ None → rule_of_group all e dir h n ≡ None
  all-of-group e dir n none =
      let a = group_at all n in
      let b = group_at left n in
      let r = group-fewer d more less fewer n in
      let v = vpc_of_rules all e a in
      let w = vpc_of_rules left e b in
      let s : LosesUnmatched h a b = get_or-alike (LosesUnmatched h) no_group (loses_nothing h no_group) more less n.0 lost in
      let no_permission : Permission = record { id = None; proto = None; q_from = 1; q_to = 0; blocks = []; lists = []; groups = [] } in
      let after : list_any (permission_allows left w dir h) (permissions_of dir b) ≡ false = none-passes _ no_permission
      (permissions_of dir b) (option_map-None _ _ none) in
      let moved : list_any (permission_allows all w dir h) (permissions_of dir b) ≡ false =
      list_any-agree (permission_allows all w dir h) (permission_allows left w dir h) (allows-same d more less fewer w dir h)
      (permissions_of dir b) ∙ after in
      let own : list_any (permission_allows all v dir h) (permissions_of dir b) ≡ false = subst
      (λ (u : List ℕ). list_any (permission_allows all u dir h) (permissions_of dir b) ≡ false) (sym (own-same d more less fewer e a b r)) moved in
      let before = s.back dir (permission_allows all v dir h)
      (λ p fails. and-later (matches_proto p.proto h.proto) (is_between p.q_from p.q_to h.q) (names_address all dir v (far_address dir h) p) fails) own in
      no-map _ _ (none-found (permission_allows all v dir h) no_permission (permissions_of dir a) before)

  all-of-number : (e : Interface) (dir : Dir) (n : Option GroupNo) → option_and_then (rule_of_group left e dir h) n ≡ None
      → option_and_then (rule_of_group all e dir h) n ≡ None
  all-of-number e dir None none = refl
  all-of-number e dir (Some n) none = all-of-group e dir n none

  all-of-groups : (e : Interface) (dir : Dir) (ids : List (List ℕ)) → first_rule_of left e dir h ids ≡ None → first_rule_of all e dir h ids ≡ None
  all-of-groups e dir [] none = refl
  all-of-groups e dir (id ∷ ids) none =
      let parts = first-none (option_and_then (rule_of_group left e dir h) (group_of_id left id)) (first_rule_of left e dir h ids) none in
      both-none (option_and_then (rule_of_group all e dir h) (group_of_id all id)) (first_rule_of all e dir h ids)
      (subst (λ (n : Option GroupNo). option_and_then (rule_of_group all e dir h) n ≡ None) (sym (number-same d more less fewer id))
      (all-of-number e dir (group_of_id left id) parts.0))
      (all-of-groups e dir ids parts.1)

  -- where none of those that are left allows it, none did
  pub none_allowed : (e : Interface) (dir : Dir) → first_rule left e dir h ≡ None → first_rule all e dir h ≡ None
  none_allowed e dir none = all-of-groups e dir e.groups none
