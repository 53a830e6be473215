-- What the index of the security groups tells, and what the description has in its place.
use Rattle.std.specs.Prelude.{◌≡◌, ◌<◌, ◌^◌, [], List, Option, slice_index_or, true, ℕ}
use Rattle.address_sets.specs.declared.sets.Run.{Run}
use Rattle.vpc_base.specs.declared.headers.Dir.{Dir}
use Rattle.vpc_base.specs.declared.headers.Header.{Header}
use Rattle.vpc_model.specs.declared.numbers.EniNo.{EniNo}
use Rattle.vpc_model.specs.declared.outcomes.RuleRef.{RuleRef}
use Rattle.vpc_model.specs.declared.rows.Description.{Description}
use Rattle.vpc_model.specs.Filter.{far_address}
use Rattle.vpc_model.specs.Groups.{first_rule}
use Rattle.vpc_model.specs.Lookup.{interface_at}
use Rattle.vpc_model.specs.Sound.{is_eni}
use Rattle.security_groups.specs.declared.groups.GroupRules.{GroupRules}
use Rattle.security_groups.specs.Asking.{first_of}
use Rattle.security_groups.specs.Members.{MemberSets}

-- the entries of each prefix list, the members of groups, the rules of each group, and the groups of
-- each interface
pub record GroupLists : Type 0 where
  pub lists : List (List Run)
  pub members : MemberSets
  pub groups : List GroupRules
  pub interfaces : List (List ℕ)

-- the first rule of an interface's groups that allows the packet
abbrev pub allowed : GroupLists → EniNo → Dir → Header → Option RuleRef
allowed i e dir h = first_of i.lists i.members i.groups dir h (slice_index_or i.interfaces e.0 [])

-- the index tells of every packet at every interface what the description says
pub record HasRulesOf (d : Description) (i : GroupLists) : Type 0 where
  pub rules : (e : EniNo) (dir : Dir) (h : Header) → is_eni d e ≡ true → far_address dir h < 2 ^ 32
      → allowed i e dir h ≡ first_rule d (interface_at d e) dir h
