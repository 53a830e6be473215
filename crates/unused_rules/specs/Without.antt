-- A description with one rule taken out.
use Rattle.std.specs.List.{remove}
use Rattle.std.specs.Prelude.{◌-◌, List, slice_set, ℕ}
use Rattle.copied_rows.specs.Filters.{with_filters}
use Rattle.vpc_base.specs.declared.headers.Dir.TheVariants as dirs
use Rattle.vpc_laws.specs.Types.{Acl, AclNo, Description, Dir, Group, RuleRef}
use Rattle.vpc_model.specs.Lookup.{acl_at, group_at}
use Rattle.unused_rules.specs.declared.rules.RuleName.{RuleName}
use Rattle.unused_rules.specs.declared.rules.RuleName.TheVariants as rules

-- the group without the permission with this number, from 1
abbrev pub without_permission : Dir → ℕ → Group → Group
without_permission dirs.Inward number g = record { id = g.id; vpc = g.vpc; inward = remove g.inward (number - 1); outward = g.outward }
without_permission dirs.Outward number g = record { id = g.id; vpc = g.vpc; inward = g.inward; outward = remove g.outward (number - 1) }

-- the ACL without the row at this place, from 0
abbrev pub without_row : ℕ → Acl → Acl
without_row k a = record { id = a.id; subnets = a.subnets; rows = remove a.rows k }

-- the groups without it
abbrev pub groups_without : Description → RuleRef → List Group
groups_without d r = slice_set d.groups r.group.0 (without_permission r.dir r.number (group_at d r.group))

-- the ACLs without it
abbrev pub acls_without : Description → AclNo → ℕ → List Acl
acls_without d a k = slice_set d.acls a.0 (without_row k (acl_at d a))

-- the description without the rule: that one permission or row is taken out, and all else is the same
abbrev pub without : Description → RuleName → Description
without d (rules.Permission r) = with_filters d d.acls (groups_without d r)
without d (rules.AclRow a k) = with_filters d (acls_without d a k) d.groups
