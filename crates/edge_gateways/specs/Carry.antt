-- What a peering carries, by the blocks of its VPCs (VPC Peering Guide, "VPC peering basics"; that both addresses
-- must lie in blocks is this project's profile).
use Rattle.std.specs.Prelude.{if◌then◌else◌, Bool, List, None, Option, not, slice_index_or}
use Rattle.address_sets.specs.declared.sets.Run.{Run}
use Rattle.vpc_base.specs.declared.headers.Header.{Header}
use Rattle.vpc_model.specs.declared.numbers.PeerNo.{PeerNo}
use Rattle.vpc_model.specs.declared.numbers.VpcNo.{VpcNo}
use Rattle.edge_gateways.specs.declared.peerings.Carry.{Carry}
use Rattle.edge_gateways.specs.declared.peerings.Carry.TheVariants as carries
use Rattle.edge_gateways.specs.declared.sides.Sides.{Sides}
use Rattle.edge_gateways.specs.Sides.{has_address, other_of}

-- by whether a block of the sender holds the source, and a block of the receiver the destination
abbrev pub carry_if : Bool → Bool → Carry
carry_if source destination = if not source then carries.BadSource else (if not destination then carries.BadDestination else carries.Yes)

-- between the two VPCs of the peering
abbrev pub carried : List (List Run) → List (Option Sides) → PeerNo → VpcNo → Header → Carry
carried blocks sides x v h = carry_if (has_address blocks v h.src) (has_address blocks (other_of v (slice_index_or sides x.0 None)) h.dst)
