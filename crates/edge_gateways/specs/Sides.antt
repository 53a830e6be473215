-- The VPCs of peerings, by their numbers and blocks (EC2 API, DescribeVpcPeeringConnections).
use Rattle.std.specs.List.{AllZip, list_any}
use Rattle.std.specs.Prelude.{◌&&◌, ◌==◌, ◌||◌, ◌≡◌, if◌then◌else◌, Bool, List, None, Option, Some, [], false, map, slice_index_or, ℕ}
use Rattle.address_sets.specs.Runs.{is_in}
use Rattle.address_sets.specs.declared.sets.Run.{Run}
use Rattle.prefix_text.specs.Block.{holds}
use Rattle.vpc_model.specs.declared.numbers.VpcNo.{VpcNo}
use Rattle.vpc_model.specs.declared.rows.Description.{Description}
use Rattle.vpc_model.specs.declared.rows.Peering.{Peering}
use Rattle.vpc_model.specs.declared.rows.Vpc.{Vpc}
use Rattle.vpc_model.specs.Lookup.{has_vpc, vpc_no}
use Rattle.edge_gateways.specs.declared.sides.Sides.{Sides}

-- the two VPCs, where both are described
abbrev pub sides_by : Description → List ℕ × List ℕ → Option Sides
sides_by d pair = if has_vpc d pair.0 && has_vpc d pair.1 then Some (record { one = vpc_no d pair.0; other = vpc_no d pair.1 }) else None

abbrev pub sides_if : Description → Option (List ℕ × List ℕ) → Option Sides
sides_if d None = None
sides_if d (Some pair) = sides_by d pair

-- the two VPCs of a peering, where it is active and both are described
abbrev pub sides_of : Description → Peering → Option Sides
sides_of d x = sides_if d x.pair

-- the VPC is one of the two
abbrev pub is_one_of : VpcNo → Option Sides → Bool
is_one_of v None = false
is_one_of v (Some s) = (s.one.0 == v.0) || (s.other.0 == v.0)

-- the other one; of a VPC that is peered with itself, its own
abbrev pub other_of : VpcNo → Option Sides → VpcNo
other_of v None = v
other_of v (Some s) = if s.one.0 == v.0 then s.other else s.one

-- the set has the addresses of the VPC's blocks
abbrev pub HasBlocksOf : Vpc → List Run → Type 0
HasBlocksOf v set = (a : ℕ) → is_in a set ≡ list_any (holds a) v.blocks

-- a block of the VPC holds the address
abbrev pub has_address : List (List Run) → VpcNo → ℕ → Bool
has_address blocks v a = is_in a (slice_index_or blocks v.0 [])

-- the blocks of all VPCs and the sides of all peerings
pub record HasPeeringsOf (d : Description) (sets : List (List Run)) (pairs : List (Option Sides)) : Type 0 where
  pub blocks : AllZip HasBlocksOf d.vpcs sets
  pub sides : pairs ≡ map (sides_of d) d.peerings
