-- A peering (VPC Peering Guide, "VPC peering basics").
use Rattle.std.specs.Prelude.{if◌then◌else◌, List, None, Option, Some, not, ℕ}
use Rattle.vpc_model.specs.Types.{Description, Header, PeerNo, VpcNo}
use Rattle.vpc_model.specs.declared.places.Place.TheVariants as places
use Rattle.vpc_model.specs.declared.stops.Stop.TheVariants as stops
use Rattle.vpc_model.specs.declared.places.EnterBy.TheVariants as through
use Rattle.vpc_model.specs.Lookup.{peering_at, vpc_at, vpc_no}
use Rattle.vpc_model.specs.Peerings.{has_block, other_side}
use Rattle.vpc_model.specs.Step.Words.{Moment, Next, Step, go, plain, stop}

-- over a peering: from a block of the one VPC to a block of the other (profile)
abbrev pub over_peering : Description → PeerNo → VpcNo → VpcNo → Header → Next
over_peering d x v w h =
    if not (has_block d v h.src) then stop (stops.PeerSource x)
    else (if not (has_block d w h.dst) then stop (stops.PeerDestination x) else go (places.Enter w (through.Peering x)) h)

-- by the two VPCs of the peering (EC2 API, DescribeVpcPeeringConnections)
abbrev pub by_pair : Description → PeerNo → VpcNo → Header → Option (List ℕ × List ℕ) → Next
by_pair d x v h None = stop (stops.PeerNotActive x)
by_pair d x v h (Some pair) = let row = vpc_at d v in over_peering d x v (vpc_no d (other_side row.id pair)) h

-- a peering carries to its other VPC and no further (VPC Peering Guide, "Unsupported VPC peering configurations")
abbrev pub step_peer : Description → PeerNo → VpcNo → Moment → Step
step_peer d x v m = let row = peering_at d x in plain m (by_pair d x v m.header row.pair)
