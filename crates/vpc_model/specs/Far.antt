-- Networks of which no bundle tells, by what leads there: virtual private gateways (Site-to-Site VPN User Guide, "How it
-- works"), attachments of transit gateways, peerings with VPCs that aren't described, and gateway endpoints (AWS PrivateLink Guide,
-- "Gateway endpoints"). Packets start and arrive there as on the internet.
use Rattle.std.specs.List.{list_any}
use Rattle.std.specs.Prelude.{◌&&◌, [], Bool, List, None, Option, Some, bytes_eq, false, find, if◌then◌else◌, not, option_and_then, option_map, position, true, ℕ}
use Rattle.vpc_model.specs.Types.{Block, Description, Far, FarKind, FarNo, PeerNo, TgwTableNo, VpcNo}
use Rattle.vpc_model.specs.declared.rows.FarKind.TheVariants as kinds
use Rattle.prefix_text.specs.Block.{holds}
use Rattle.vpc_model.specs.Lookup.{far_at, has_peering, has_vpc, peer_no, peering_at, tgw_table_of_id, vpc_no}

-- exactly one of the two VPCs of an active peering is described (EC2 API, DescribeVpcPeeringConnections)
abbrev pub is_half : Description → Option (List ℕ × List ℕ) → Bool
is_half d None = false
is_half d (Some pair) = if has_vpc d pair.0 then not (has_vpc d pair.1) else has_vpc d pair.1

-- no VPC, or one that isn't described
abbrev pub is_elsewhere : Description → Option (List ℕ) → Bool
is_elsewhere d None = true
is_elsewhere d (Some vpc) = not (has_vpc d vpc)

-- a network is an end unless a described VPC is at the other side: then what lacks is a row of a list (profile)
abbrev pub is_far_end : Description → Far → Bool
is_far_end d f =
    elim f.kind [
      | kinds.PrivateGateway vpc ↦ true
      | kinds.Attachment vpc ↦ is_elsewhere d vpc
      | kinds.Peering requester accepter ↦ let x = peering_at d (peer_no d f.id) in has_peering d f.id && is_half d x.pair
      | kinds.Endpoint vpc ↦ has_vpc d vpc
    ]

-- the number of the network to which what has the id leads
abbrev pub far_of_id : Description → List ℕ → Option FarNo
far_of_id d id = option_map (λ k. record { 0 = k }) (position (λ f. bytes_eq f.id id) d.fars)

-- where it is an end
abbrev pub far_end_of_id : Description → List ℕ → Option FarNo
far_end_of_id d id = option_and_then (λ k. if is_far_end d (far_at d k) then Some k else None) (far_of_id d id)

-- the VPC, where it is described
abbrev pub described_vpc : Description → Option (List ℕ) → Option VpcNo
described_vpc d None = None
described_vpc d (Some vpc) = if has_vpc d vpc then Some (vpc_no d vpc) else None

-- the peering that leads to a network
abbrev pub peering_to : Description → Far → PeerNo
peering_to d f = peer_no d f.id

-- of the two VPCs of a peering the first that is described
abbrev pub vpc_of_pair : Description → Option (List ℕ × List ℕ) → Option VpcNo
vpc_of_pair d None = None
vpc_of_pair d (Some pair) = if has_vpc d pair.0 then Some (vpc_no d pair.0) else described_vpc d (Some pair.1)

-- the described VPC beside a network: what leads there is attached to it, lies in it, or peers with it
abbrev pub vpc_beside : Description → Far → Option VpcNo
vpc_beside d f =
    elim f.kind [
      | kinds.PrivateGateway vpc ↦ described_vpc d vpc
      | kinds.Attachment vpc ↦ None
      | kinds.Peering requester accepter ↦ let x = peering_at d (peering_to d f) in vpc_of_pair d x.pair
      | kinds.Endpoint vpc ↦ described_vpc d (Some vpc)
    ]

-- of the blocks of a peering's two sides those of the VPC that isn't described
abbrev pub blocks_of_other : Description → Option (List ℕ × List ℕ) → List Block → List Block → List Block
blocks_of_other d None requester accepter = []
blocks_of_other d (Some pair) requester accepter = if has_vpc d pair.0 then accepter else requester

-- the blocks of a network, as far as they are told
abbrev pub blocks_beyond : Description → Far → List Block
blocks_beyond d f =
    elim f.kind [
      | kinds.PrivateGateway vpc ↦ []
      | kinds.Attachment vpc ↦ []
      | kinds.Peering requester accepter ↦ let x = peering_at d (peering_to d f) in blocks_of_other d x.pair requester accepter
      | kinds.Endpoint vpc ↦ []
    ]

-- a block of a list holds the address
abbrev pub is_within : List Block → ℕ → Bool
is_within blocks a = list_any (holds a) blocks

-- the described table that an attachment is associated with, by its id (EC2 API, DescribeTransitGatewayAttachments)
abbrev pub table_of_attachment_id : Description → List ℕ → Option TgwTableNo
table_of_attachment_id d id = option_and_then (λ x. tgw_table_of_id d x.table) (find (λ x. bytes_eq x.attachment id) d.associations)
