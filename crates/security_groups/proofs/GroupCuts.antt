-- The cuts of an interface's place divide enough for the rules of its groups.
use Rattle.std.proofs.Common.{Contains, List, None, Option, Some, [], ap, bytes_eq, filter_map, get_or, inl, inr, length, option_map, position, subst, ℕ, ◌+◌, ◌<◌, ◌∷◌, ◌≡◌}
use Rattle.std.specs.List.{AllZip}
use Rattle.vpc_base.proofs.Lemmas.{Contains-append_left, Contains-append_right, Contains-cases, Contains-here, Contains-later, Contains-none, Contains-permutation, IsPermutation-sym, filter_map-member, ltb-true, position-at, zip_at}
use Rattle.cut_laws.proofs.Lemmas.{among_through, on_sides_among, places_have_their_cuts, row_among}
use Rattle.cut_laws.specs.Dividing.{Divide}
use Rattle.vpc_base.specs.Cuts.{AreAmong, CutLists, no_cuts}
use Rattle.vpc_laws.specs.Types.{Description, Dir, Group, GroupNo, Interface, Permission}
use Rattle.vpc_base.specs.declared.headers.Dir.TheVariants as dirs
use Rattle.vpc_model.specs.Terms.{all_permissions, cuts_at, cuts_at_interface, cuts_of_group, cuts_of_group_id, cuts_of_permission, group_at, group_of_id, no_group, no_interface, on_sides, permissions_of, standing_cuts, vpc_of_rules}
use Rattle.vpc_model.specs.declared.places.Place.TheVariants as places
use Rattle.security_groups.specs.Terms.{AreRulesOf, DivideRule, DivideRules, GroupLists, GroupRules, HasRuleCuts, HasRulesFor, HasRulesIn, IsResolved, IsRuleOf, Rule, groups_with, no_rules, number_of, rules_in}
use Rattle.security_groups.proofs.Meaning.{set-rules}
use Rattle.security_groups.proofs.RuleCuts.{all-members, once-member, rule-divides}

-- ---- the rules of a direction

-- what a rule was made of
record IsRuleOfOne (d : Description) (dir : Dir) (vpc : List ℕ) (ps : List Permission) (r : Rule) : Type 0 where
  pub permission : Permission
  pub number : ℕ
  pub has : Contains ps permission
  pub is : IsRuleOf d dir vpc number permission r

rule-of-one : (d : Description) (dir : Dir) (vpc : List ℕ) (n : ℕ) (ps : List Permission) (rs : List Rule) (r : Rule) → AreRulesOf d dir vpc n ps rs → Contains rs r → IsRuleOfOne d dir vpc ps r
rule-of-one d dir vpc n [] [] r are has = absurd (Contains-none r has)
rule-of-one d dir vpc n [] (s ∷ rs) r are has = absurd are
rule-of-one d dir vpc n (p ∷ ps) [] r are has = absurd are
rule-of-one d dir vpc n (p ∷ ps) (s ∷ rs) r are has =
    elim (Contains-cases s r rs has) [
      | inl here ↦ record { permission = p; number = n; has = Contains-here p ps; is = subst (IsRuleOf d dir vpc n p) here are.0 }
      | inr later ↦
          let rest = rule-of-one d dir vpc (n + 1) ps rs r are.1 later in
          record { permission = rest.permission; number = rest.number; has = Contains-later p ps rest.permission rest.has; is = rest.is }
    ]

-- cuts that have those of all permissions divide enough for the rules
rules-divide : (d : Description) (i : GroupLists) (dir : Dir) (vpc : List ℕ) (ps : List Permission) (rs : List Rule) (cuts : CutLists) → IsResolved d i → HasRulesIn d dir vpc ps rs → AreAmong (standing_cuts d) cuts
    → ((p : Permission) → Contains ps p → Divide (cuts_of_permission d p) cuts) → DivideRules i.lists i.members rs cuts
rules-divide d i dir vpc ps rs cuts resolved has standing each =
    all-members (λ r. DivideRule i.lists i.members r cuts) rs (λ r at.
    let one = rule-of-one d dir vpc 1 ps has.rows r has.are (Contains-permutation rs has.rows r (IsPermutation-sym has.rows rs has.same) at) in
    rule-divides d i dir vpc one.number one.permission r cuts resolved one.is standing (each one.permission one.has))

-- ---- a group

-- the rules of a direction are among all of the group
permission-in : (g : Group) (dir : Dir) (p : Permission) → Contains (permissions_of dir g) p → Contains (all_permissions g) p
permission-in g dirs.Inward p has = Contains-append_left g.inward g.outward p has
permission-in g dirs.Outward p has = Contains-append_right g.inward g.outward p has

-- cuts that have those of a group divide enough for a set of its rules
set-divides : (d : Description) (i : GroupLists) (e : Interface) (g s : ℕ) (dir : Dir) (cuts : CutLists) → IsResolved d i → AreAmong (standing_cuts d) cuts → HasRulesFor d i.groups e g s
    → Divide (cuts_of_group d (get_or d.groups g no_group)) cuts → DivideRules i.lists i.members (rules_in i.groups dir s) cuts
set-divides d i e g s dir cuts resolved standing has divide =
    let row = get_or d.groups g no_group in
    let vpc = vpc_of_rules d e row in
    rules-divide d i dir vpc (permissions_of dir row) (rules_in i.groups dir s) cuts resolved (set-rules d dir g vpc (get_or i.groups s no_rules) has.is) standing (λ p has.
    among_through (on_sides (cuts_of_permission d p)) (on_sides (cuts_of_group d row)) cuts
    (on_sides_among (cuts_of_permission d p) (cuts_of_group d row) (row_among (cuts_of_permission d) (all_permissions row) p (permission-in row dir p has)))
    divide)

-- ---- an interface

-- a group that an id names
record IsGroupOfId (d : Description) (id : List ℕ) (k : ℕ) : Type 0 where
  pub within : k < length d.groups
  pub cuts : cuts_of_group_id d id ≡ cuts_of_group d (get_or d.groups k no_group)

group-of-id : (d : Description) (id : List ℕ) (k : ℕ) → number_of d id ≡ Some k → IsGroupOfId d id k
group-of-id d id k named =
    let found = found-number (position (λ (g : Group). bytes_eq g.id id) d.groups) named in
    let at = position-at (λ (g : Group). bytes_eq g.id id) d.groups k no_group found in
    let number : (ℕ → GroupNo) = λ n. record { 0 = n } in
    let numbered : group_of_id d id ≡ Some (number k) = ap (option_map number) found in
    record { within = ltb-true k (length d.groups) at.0; cuts = ap cuts-if numbered }
  where
    found-number : (o : Option ℕ) → option_map (λ (g : GroupNo). g.0) (option_map (λ n. record { 0 = n }) o) ≡ Some k → o ≡ Some k
    found-number None e = absurd cc
    found-number (Some n) e = e

    cuts-if : Option GroupNo → CutLists
    cuts-if None = no_cuts
    cuts-if (Some g) = cuts_of_group d (group_at d g)

-- a set's group
record HasGroupOf (d : Description) (sets : List GroupRules) (e : Interface) (gs : List ℕ) (s : ℕ) : Type 0 where
  pub group : ℕ
  pub has : Contains gs group
  pub rules : HasRulesFor d sets e group s

group-of-set : (d : Description) (sets : List GroupRules) (e : Interface) (gs ss : List ℕ) (s : ℕ) → AllZip (HasRulesFor d sets e) gs ss → Contains ss s → HasGroupOf d sets e gs s
group-of-set d sets e [] [] s zip has = absurd (Contains-none s has)
group-of-set d sets e [] (x ∷ ss) s zip has = absurd zip
group-of-set d sets e (g ∷ gs) [] s zip has = absurd zip
group-of-set d sets e (g ∷ gs) (x ∷ ss) s zip has =
    elim (Contains-cases x s ss has) [
      | inl here ↦ record { group = g; has = Contains-here g gs; rules = subst (HasRulesFor d sets e g) here zip.0 }
      | inr later ↦
          let rest = group-of-set d sets e gs ss s zip.1 later in
          record { group = rest.group; has = Contains-later g gs rest.group rest.has; rules = rest.rules }
    ]

-- what is resolved is cut at the interfaces' places
pub has_rule_cuts : (d : Description) (i : GroupLists) → IsResolved d i → HasRuleCuts d i
has_rule_cuts d i resolved e dir lies =
    let row = get_or d.interfaces e.0 no_interface in
    let cuts : CutLists = cuts_at d (places.OutOf e) in
    let place = places_have_their_cuts d (places.OutOf e) in
    let sets = zip_at (λ (x : Interface) (ns : List ℕ). AllZip (HasRulesFor d i.groups x) (groups_with d x) ns) d.interfaces i.interfaces e.0 no_interface [] resolved.lists.rules (ltb-true e.0 (length d.interfaces) lies) in
    all-members (λ n. DivideRules i.lists i.members (rules_in i.groups dir n) cuts) (get_or i.interfaces e.0 []) (λ s has.
    let of = group-of-set d i.groups row (groups_with d row) (get_or i.interfaces e.0 []) s sets has in
    let n = of.group in
    let id = filter_map-member (number_of d) row.groups n (once-member (filter_map (number_of d) row.groups) n of.has) in
    let is = group-of-id d id.0 n id.2 in
    let among : AreAmong (cuts_of_group_id d id.0) (cuts_at_interface d e) = row_among (cuts_of_group_id d) row.groups id.0 id.1 in
    set-divides d i row n s dir cuts resolved place.standing of.rules
    (subst (λ c. Divide c cuts) is.cuts
    (among_through (on_sides (cuts_of_group_id d id.0)) (on_sides (cuts_at_interface d e)) cuts (on_sides_among (cuts_of_group_id d id.0) (cuts_at_interface d e) among) place.asked)))
