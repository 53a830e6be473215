-- What holds of a description without one of its rules.
use Rattle.std.specs.Prelude.{◌∷◌, ◌≡◌, [], List, None, Some, codes, false, map, true, ℕ}
use Rattle.vpc_base.specs.declared.headers.Dir.TheVariants as dirs
use Rattle.vpc_laws.specs.Types.{Acl, AclRow, Description, Group, Permission}
use Rattle.vpc_model.specs.Accepted.{IsAccepted}
use Rattle.unused_rules.specs.Without.{without, without_permission, without_row}
use Rattle.unused_rules.specs.declared.rules.RuleName.{RuleName}

-- it is accepted where the description is
abbrev pub RemovalsAreAccepted : Type 0
RemovalsAreAccepted = (d : Description) (rule : RuleName) → IsAccepted d → IsAccepted (without d rule)

-- ---- rows, computed

-- a permission for one port of TCP
abbrev pub to_port : ℕ → Permission
to_port q = record { id = None; proto = Some 6; q_from = q; q_to = q; blocks = []; lists = []; groups = [] }

-- a group that lets these ports in, and these out
abbrev pub group_of : List ℕ → List ℕ → Group
group_of inward outward = record { id = codes "sg-a"; vpc = codes "vpc-1"; inward = map to_port inward; outward = map to_port outward }

-- an inbound row with this number
abbrev pub row_of : ℕ → AclRow
row_of number = record { number = number; outward = false; allow = true; proto = Some 6; q_from = 443; q_to = 443; block = record { first = 0; length = 0 } }

abbrev pub acl_of : List ℕ → Acl
acl_of numbers = record { id = codes "acl-a"; subnets = codes "subnet-a" ∷ []; rows = map row_of numbers }

-- one permission is taken out of its direction and none of the other, and one row of an ACL
abbrev pub RemovalsTakeOneRule : Type 0
RemovalsTakeOneRule =
    (without_permission dirs.Inward 2 (group_of (22 ∷ 443 ∷ []) (53 ∷ 80 ∷ [])) ≡ group_of (22 ∷ []) (53 ∷ 80 ∷ []))
    × ((without_permission dirs.Outward 1 (group_of (22 ∷ 443 ∷ []) (53 ∷ 80 ∷ [])) ≡ group_of (22 ∷ 443 ∷ []) (80 ∷ []))
    × (without_row 1 (acl_of (100 ∷ 200 ∷ 300 ∷ [])) ≡ acl_of (100 ∷ 300 ∷ [])))
