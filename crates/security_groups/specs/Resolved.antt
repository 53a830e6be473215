-- What resolved rules have in place of described ones.
use Rattle.std.specs.List.{AllZip, filter_map, list_any}
use Rattle.std.specs.Prelude.{◌+◌, ◌<◌, ◌≡◌, ◌∷◌, [], if◌then◌else◌, IsPermutation, List, None, Option, Some, bytes_eq, length, map, option_and_then, position, slice_index_or, ℕ}
use Rattle.address_sets.specs.Runs.{is_in}
use Rattle.address_sets.specs.declared.sets.Run.{Run}
use Rattle.prefix_text.specs.Block.{holds}
use Rattle.vpc_model.specs.declared.numbers.GroupNo.{GroupNo}
use Rattle.vpc_model.specs.declared.rows.Description.{Description}
use Rattle.vpc_model.specs.declared.rows.Interface.{Interface}
use Rattle.vpc_model.specs.declared.rows.Permission.{Permission}
use Rattle.vpc_base.specs.declared.headers.Dir.{Dir}
use Rattle.vpc_base.specs.declared.headers.Dir.TheVariants as dirs
use Rattle.vpc_model.specs.Groups.{reference_counts, vpc_of_rules}
use Rattle.vpc_model.specs.Lookup.{group_at, group_of_id}
use Rattle.security_groups.specs.Asking.{no_rules}
use Rattle.security_groups.specs.declared.building.Named.{Named}
use Rattle.security_groups.specs.declared.groups.GroupRules.{GroupRules}
use Rattle.security_groups.specs.declared.rules.Rule.{Rule}
use Rattle.security_groups.specs.Index.{GroupLists}
use Rattle.security_groups.specs.Lists.{HasEntriesOf}
use Rattle.security_groups.specs.Members.{HasMembersOf, groups_with}
use Rattle.security_groups.specs.Once.{once}
use Rattle.security_groups.specs.Naming.{IsNaming}
use Rattle.security_groups.specs.Sets.{IsSetNumber}

-- the number of a prefix list
abbrev pub list_no : Description → List ℕ → Option ℕ
list_no d id = position (λ l. bytes_eq l.id id) d.lists

-- the number of a group that a rule that counts in the VPC names, where the reference counts
abbrev pub counted : Description → Dir → List ℕ → List ℕ → Option ℕ
counted d dir vpc id = option_and_then (λ (g : GroupNo). if reference_counts d dir vpc id then Some g.0 else None) (group_of_id d id)

-- what rules are resolved by
pub record AreNamesOf (d : Description) (named : Named) : Type 0 where
  pub lists : named.lists ≡ map (λ l. l.id) d.lists
  pub naming : IsNaming d named.naming

-- the rule of this number, in a direction, as it counts in the VPC
pub record IsRuleOf (d : Description) (dir : Dir) (vpc : List ℕ) (n : ℕ) (p : Permission) (r : Rule) : Type 0 where
  pub number : r.number ≡ n
  pub proto : r.proto ≡ p.proto
  pub from : r.q_from ≡ p.q_from
  pub to : r.q_to ≡ p.q_to
  pub blocks : (a : ℕ) → is_in a r.blocks ≡ list_any (holds a) p.blocks
  pub lists : r.lists ≡ once (filter_map (list_no d) p.lists)
  pub groups : r.groups ≡ once (filter_map (counted d dir vpc) p.groups)

-- the rules from this number on
abbrev pub AreRulesOf : Description → Dir → List ℕ → ℕ → List Permission → List Rule → Type 0
AreRulesOf d dir vpc n [] [] = Unit {0}
AreRulesOf d dir vpc n [] (r ∷ rs) = ⊥
AreRulesOf d dir vpc n (p ∷ ps) [] = ⊥
AreRulesOf d dir vpc n (p ∷ ps) (r ∷ rs) = IsRuleOf d dir vpc n p r × AreRulesOf d dir vpc (n + 1) ps rs

-- the rules, in another order
pub record HasRulesIn (d : Description) (dir : Dir) (vpc : List ℕ) (ps : List Permission) (rs : List Rule) : Type 0 where
  pub rows : List Rule
  pub are : AreRulesOf d dir vpc 1 ps rows
  pub same : IsPermutation rows rs

-- the rules of a group in both directions, as they count in the VPC
pub record IsSetOf (d : Description) (g : ℕ) (vpc : List ℕ) (r : GroupRules) : Type 0 where
  pub group : r.group.0 ≡ g
  pub inward : let row = group_at d (record { 0 = g }) in HasRulesIn d dirs.Inward vpc row.inward r.inward
  pub outward : let row = group_at d (record { 0 = g }) in HasRulesIn d dirs.Outward vpc row.outward r.outward

-- the sets of all groups in their own VPCs
pub record AreOwnSets (d : Description) (sets : List GroupRules) : Type 0 where
  pub all : length sets ≡ length d.groups
  pub each : (g : ℕ) → g < length d.groups → let row = group_at d (record { 0 = g }) in IsSetOf d g row.vpc (slice_index_or sets g no_rules)

-- the sets of all groups in their own VPCs, and the further ones
pub record AreSets (d : Description) (ids : List (List ℕ)) (further : List (ℕ × ℕ)) (sets : List GroupRules) : Type 0 where
  pub all : length sets ≡ length d.groups + length further
  pub each : (s g : ℕ) (vpc : List ℕ) → IsSetNumber d ids further s g vpc → IsSetOf d g vpc (slice_index_or sets s no_rules)

-- a set that holds the rules of a group as they count for an interface
pub record HasRulesFor (d : Description) (sets : List GroupRules) (e : Interface) (g s : ℕ) : Type 0 where
  pub within : s < length sets
  pub described : g < length d.groups
  pub is : IsSetOf d g (vpc_of_rules d e (group_at d (record { 0 = g }))) (slice_index_or sets s no_rules)

-- the sets of all interfaces, in the order of each one's groups
abbrev pub AreAsked : Description → List (List ℕ) → List GroupRules → Type 0
AreAsked d interfaces sets = AllZip (λ e ns. AllZip (HasRulesFor d sets e) (groups_with d e) ns) d.interfaces interfaces

-- the entries of all prefix lists, and the rules of all groups where interfaces have them
pub record HasListsOf (d : Description) (lists : List (List Run)) (interfaces : List (List ℕ)) (groups : List GroupRules) : Type 0 where
  pub entries : AllZip HasEntriesOf d.lists lists
  pub rules : AreAsked d interfaces groups

-- the index holds all of them
pub record IsResolved (d : Description) (i : GroupLists) : Type 0 where
  pub lists : HasListsOf d i.lists i.interfaces i.groups
  pub members : HasMembersOf d i.members
