-- What rules of ACLs and groups have in common.
use Rattle.std.specs.Prelude.{◌==◌, ◌&&◌, Bool, None, Option, Some, nat_le, true, ℕ}
use Rattle.vpc_model.specs.Types.{Dir, Header}
use Rattle.vpc_base.specs.declared.headers.Dir.TheVariants as dirs

-- the address at the other side: the source of inbound packets, the destination of outbound ones (VPC User Guide, "Security group rules")
abbrev pub far_address : Dir → Header → ℕ
far_address dirs.Inward h = h.src
far_address dirs.Outward h = h.dst

-- a rule for all protocols, or for this one (VPC User Guide, "Security group rules")
abbrev pub matches_proto : Option ℕ → ℕ → Bool
matches_proto None proto = true
matches_proto (Some n) proto = n == proto

-- the number lies between the two, which it may not at all where the first is greater
abbrev pub is_between : ℕ → ℕ → ℕ → Bool
is_between from to x = nat_le from x && nat_le x to
