-- What the maps of a network's edges tell, and what the description has in their place.
use Rattle.std.specs.List.{AllZip}
use Rattle.std.specs.Prelude.{◌≡◌, Bool, List, None, Option, Some, slice_index_or, true, ℕ}
use Rattle.address_sets.specs.declared.sets.Run.{Run}
use Rattle.number_tables.specs.declared.tables.Entry.{Entry}
use Rattle.vpc_base.specs.declared.headers.Header.{Header}
use Rattle.vpc_model.specs.declared.numbers.PeerNo.{PeerNo}
use Rattle.vpc_model.specs.declared.numbers.VpcNo.{VpcNo}
use Rattle.vpc_model.specs.declared.rows.Description.{Description}
use Rattle.vpc_model.specs.Accepted.{is_side}
use Rattle.vpc_model.specs.Lookup.{has_vpc, peering_at, vpc_at, vpc_no}
use Rattle.vpc_model.specs.Peerings.{has_block, other_side}
use Rattle.vpc_model.specs.Sound.{is_vpc}
use Rattle.edge_gateways.specs.declared.pairs.Owner.{Owner}
use Rattle.edge_gateways.specs.declared.peerings.Carry.{Carry}
use Rattle.edge_gateways.specs.declared.sides.Sides.{Sides}
use Rattle.edge_gateways.specs.FarBlocks.{HasBlocksBeyond}
use Rattle.edge_gateways.specs.Carry.{carried, carry_if}
use Rattle.edge_gateways.specs.Pairs.{HasPairsOf, owner_at, public_at}
use Rattle.edge_gateways.specs.Sides.{HasPeeringsOf, is_one_of}

-- public addresses by private ones and the other way round, the addresses of each VPC's blocks, the sides of each
-- peering, and the addresses of the blocks of each network that isn't described
pub record EdgeLists : Type 0 where
  pub publics : List (Entry ℕ)
  pub owners : List (Entry Owner)
  pub blocks : List (List Run)
  pub sides : List (Option Sides)
  pub beyond : List (List Run)

-- ---- what the maps tell

-- the public address of a private one in a VPC
abbrev pub public_in : EdgeLists → VpcNo → ℕ → Option ℕ
public_in m v own = public_at m.publics v own

-- the VPC of a public address, and the private address there
abbrev pub owner_in : EdgeLists → ℕ → Option (VpcNo × ℕ)
owner_in m public = owner_at m.owners public

-- the peering can carry packets of the VPC
abbrev pub is_carrier : EdgeLists → PeerNo → VpcNo → Bool
is_carrier m x v = is_one_of v (slice_index_or m.sides x.0 None)

-- whether it carries this one
abbrev pub carry : EdgeLists → PeerNo → VpcNo → Header → Carry
carry m x v h = carried m.blocks m.sides x v h

-- ---- what the description has

-- the peering is active, both its VPCs are described, and the sender is one of them
pub record CanCarry (d : Description) (x : PeerNo) (sender : VpcNo) : Type 0 where
  pub pair : List ℕ × List ℕ
  pub active : (peering_at d x).pair ≡ Some pair
  pub one : has_vpc d pair.0 ≡ true
  pub other : has_vpc d pair.1 ≡ true
  pub sends : is_vpc d sender ≡ true
  pub side : is_side (vpc_at d sender).id (Some pair) ≡ true

-- what a peering of these two VPCs does with a packet (profile)
abbrev pub carry_of : Description → VpcNo → Header → List ℕ × List ℕ → Carry
carry_of d v h pair = carry_if (has_block d v h.src) (has_block d (vpc_no d (other_side (vpc_at d v).id pair)) h.dst)

-- the maps tell of every address and packet what the description says; a peering has sides only where it is active
-- between two described VPCs
pub record AreEdgesOf (d : Description) (m : EdgeLists) : Type 0 where
  pub pairs : HasPairsOf d m.publics m.owners
  pub peerings : HasPeeringsOf d m.blocks m.sides
  pub beyond : AllZip (HasBlocksBeyond d) d.fars m.beyond
  pub carriers : (x : PeerNo) (v : VpcNo) → CanCarry d x v → is_carrier m x v ≡ true
  pub carries : (x : PeerNo) (v : VpcNo) (h : Header) → (can : CanCarry d x v) → carry m x v h ≡ carry_of d v h can.pair
