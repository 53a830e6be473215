-- The rules of a description, in the order in which they are told.
use Rattle.std.specs.List.{enumerate_from, flat_map}
use Rattle.std.specs.Prelude.{◌++◌, ◌≤◌, List, filter, length, map, ℕ}
use Rattle.vpc_base.specs.declared.headers.Dir.TheVariants as dirs
use Rattle.vpc_laws.specs.Types.{Acl, AclRow, Description, Dir, Group, Permission}
use Rattle.vpc_model.specs.Acls.{is_of_dir}
use Rattle.unused_rules.specs.declared.rules.RuleName.{RuleName}
use Rattle.unused_rules.specs.declared.rules.RuleName.TheVariants as rules

-- ---- of a group

-- a permission of the group with this number, by its own number, from 1
abbrev pub permission : ℕ → Dir → ℕ × Permission → RuleName
permission g dir p = rules.Permission (record { group = record { 0 = g }; dir = dir; number = p.0 })

-- the permissions of a direction
abbrev pub permissions_in : ℕ → Dir → List Permission → List RuleName
permissions_in g dir permissions = map (permission g dir) (enumerate_from 1 permissions)

-- the inward ones, then the outward ones
abbrev pub rules_of_group : ℕ × Group → List RuleName
rules_of_group g =
    let row = g.1 in
    permissions_in g.0 dirs.Inward row.inward ++ permissions_in g.0 dirs.Outward row.outward

-- ---- of an ACL

-- a row of the ACL with this number, by its place, from 0
abbrev pub acl_row : ℕ → ℕ × AclRow → RuleName
acl_row a row = rules.AclRow (record { 0 = a }) row.0

-- the rows of a direction
abbrev pub rows_in : ℕ → Dir → List AclRow → List RuleName
rows_in a dir rows = map (acl_row a) (filter (λ row. is_of_dir dir row.1) (enumerate_from 0 rows))

-- the inward ones, then the outward ones
abbrev pub rules_of_acl : ℕ × Acl → List RuleName
rules_of_acl a =
    let row = a.1 in
    rows_in a.0 dirs.Inward row.rows ++ rows_in a.0 dirs.Outward row.rows

-- ---- of a description

-- those of all groups, then those of all ACLs
abbrev pub rules_of : Description → List RuleName
rules_of d = flat_map rules_of_group (enumerate_from 0 d.groups) ++ flat_map rules_of_acl (enumerate_from 0 d.acls)

-- ---- how many there are

-- a list that numbers of 32 bits can count
abbrev pub IsShort : {X : Type 0} → List X → Type 0
IsShort rows = length rows ≤ 100000

pub record HasShortRules (g : Group) : Type 0 where
  pub inward : IsShort g.inward
  pub outward : IsShort g.outward

abbrev pub HasShortRows : Acl → Type 0
HasShortRows a = IsShort a.rows
