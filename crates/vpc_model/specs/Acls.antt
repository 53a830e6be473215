-- Verdicts of network ACLs (VPC User Guide, "Network ACL rules"). ACLs know no connections.
use Rattle.std.specs.Prelude.{◌&&◌, Bool, List, None, Option, Some, false, nat_lt, not, ℕ}
use Rattle.vpc_model.specs.Types.{AclRow, Dir, Header}
use Rattle.vpc_base.specs.declared.headers.Dir.TheVariants as dirs
use Rattle.prefix_text.specs.Block.{holds}
use Rattle.vpc_model.specs.Choice.{chosen}
use Rattle.vpc_model.specs.Filter.{far_address, is_between, matches_proto}

-- the row is of the direction (EC2 API, DescribeNetworkAcls)
abbrev pub is_of_dir : Dir → AclRow → Bool
is_of_dir dirs.Inward r = not r.outward
is_of_dir dirs.Outward r = r.outward

-- protocol, port range and block match (VPC User Guide, "Network ACL rules")
abbrev pub acl_matches : Dir → Header → AclRow → Bool
acl_matches dir h r = is_of_dir dir r && (matches_proto r.proto h.proto && (is_between r.q_from r.q_to h.q && holds (far_address dir h) r.block))

-- what a row says, or the last rule of every ACL (VPC User Guide, "Network ACL rules")
abbrev pub verdict_of_row : Option AclRow → Bool × ℕ
verdict_of_row None = (false, 32767)
verdict_of_row (Some r) = (r.allow, r.number)

-- whether the packet may pass, and the number of its rule: the first of the matching rows with the least number (VPC User Guide, "Network ACL rules")
abbrev pub acl_verdict : List AclRow → Dir → Header → Bool × ℕ
acl_verdict rows dir h = verdict_of_row (chosen (acl_matches dir h) (λ r s. nat_lt r.number s.number) rows)
