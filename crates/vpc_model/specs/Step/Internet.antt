-- The internet gateway, and the internet behind it (VPC User Guide, "Internet gateways").
use Rattle.std.specs.Prelude.{◌||◌, if◌then◌else◌, Bool, None, Option, Some, is_none, is_some, option_and_then, ℕ}
use Rattle.vpc_model.specs.Types.{Description, EniNo, Header, Stop, VpcNo}
use Rattle.vpc_model.specs.declared.places.End.TheVariants as ends
use Rattle.vpc_model.specs.declared.places.Place.TheVariants as places
use Rattle.vpc_model.specs.declared.stops.Stop.TheVariants as stops
use Rattle.vpc_model.specs.declared.places.EnterBy.TheVariants as through
use Rattle.vpc_model.specs.Access.{access_of, stops_at}
use Rattle.vpc_model.specs.Internet.{is_unroutable, owner_of, private_of, public_of}
use Rattle.vpc_model.specs.Lookup.{attached_gateway, gateway_of, host_of, subnet_of}
use Rattle.vpc_model.specs.Step.Crossing.{nat_of}
use Rattle.vpc_model.specs.Step.Words.{Moment, Next, Step, arrive, go, plain, stop, unless_stopped}

-- the mode of its subnet shuts the interface off from the internet; that of a live NAT gateway only where nothing passes (VPC User Guide, "Block public access to VPCs and subnets")
abbrev pub is_blocked : Description → EniNo → Bool
is_blocked d i = stops_at (access_of d (subnet_of d i)) (is_some (nat_of d i))

-- what stops packets between the interface and the internet
abbrev pub blocked : Description → EniNo → Option Stop
blocked d i = if is_blocked d i then Some (stops.BlockPublicAccess (subnet_of d i)) else None

-- what stops packets between the interface of a VPC that has the private address and the internet (profile: its own subnet decides, behind a NAT gateway the gateway's)
abbrev pub blocked_at : Description → VpcNo → ℕ → Option Stop
blocked_at d v own = option_and_then (blocked d) (host_of d v own)

-- with the public address as the source, unless public access is blocked (VPC User Guide, "Internet gateways")
abbrev pub go_public : Description → VpcNo → Header → Option ℕ → Next
go_public d v h None = stop (stops.NoPublic (attached_gateway d v))
go_public d v h (Some public) = unless_stopped (blocked_at d v h.src) (go places.Internet (record h { src = public }))

-- out by the internet gateway (VPC User Guide, "Internet gateways")
abbrev pub step_igw_out : Description → VpcNo → Moment → Step
step_igw_out d v m = plain m (go_public d v m.header (public_of d v m.header.src))

-- to the gateway of the VPC that has the public address, else arrived on the internet (VPC User Guide, "Internet gateways")
abbrev pub to_owner : Description → Header → Option VpcNo → Next
to_owner d h None = arrive ends.Internet
to_owner d h (Some v) = if is_none (gateway_of d v) then stop (stops.NoGateway v) else go (places.IgwIn v) h

-- on the internet, which carries no packet from or to a non-routable address (profile)
abbrev pub step_internet : Description → Moment → Step
step_internet d m =
    if is_unroutable m.header.src || is_unroutable m.header.dst then plain m (stop stops.PrivateAddress)
    else plain m (to_owner d m.header (owner_of d m.header.dst))

-- with the private address as the destination, unless public access is blocked (VPC User Guide, "Internet gateways")
abbrev pub go_private : Description → VpcNo → Header → Option ℕ → Next
go_private d v h None = go (places.Enter v through.Gateway) h
go_private d v h (Some own) = unless_stopped (blocked_at d v own) (go (places.Enter v through.Gateway) (record h { dst = own }))

-- in by the internet gateway (VPC User Guide, "Internet gateways")
abbrev pub step_igw_in : Description → VpcNo → Moment → Step
step_igw_in d v m = plain m (go_private d v m.header (private_of d v m.header.dst))
