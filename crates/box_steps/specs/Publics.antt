-- Whose a public address is, and which one packets get (VPC User Guide, "Internet gateways").
use Rattle.std.specs.Prelude.{◌==◌, if◌then◌else◌, Err, None, Ok, Option, Result, Some, ℕ}
use Rattle.vpc_laws.specs.Types.{Description, Stop, VpcNo}
use Rattle.vpc_model.specs.Terms.{attached_gateway, blocked_at, public_of}
use Rattle.vpc_model.specs.declared.stops.Stop.TheVariants as stops

-- the private address of an owner, if it is in the VPC
abbrev pub own_in : VpcNo → Option (VpcNo × ℕ) → Option ℕ
own_in v None = None
own_in v (Some o) = if o.0.0 == v.0 then Some o.1 else None

-- the public address, unless public access is blocked
abbrev pub unless_blocked : ℕ → Option Stop → Result ℕ Stop
unless_blocked public None = Ok public
unless_blocked public (Some s) = Err s

-- what packets get for their source, if it has a public address
abbrev pub got : Description → VpcNo → ℕ → Option ℕ → Result ℕ Stop
got d v own None = Err (stops.NoPublic (attached_gateway d v))
got d v own (Some public) = unless_blocked public (blocked_at d v own)

-- the public address that packets of a VPC get for their source at its internet gateway, or what stops them
abbrev pub got_at : Description → VpcNo → ℕ → Result ℕ Stop
got_at d v own = got d v own (public_of d v own)
