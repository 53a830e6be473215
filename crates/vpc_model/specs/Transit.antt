-- Transit gateways (Transit Gateways guide, "How transit gateways work"). By which subnet a packet leaves is
-- this project's profile.
use Rattle.std.specs.Prelude.{◌==◌, ◌&&◌, ◌||◌, ◌∷◌, [], if◌then◌else◌, Bool, List, None, Option, Some, bytes_eq, find, nat_lt, not, option_and_then, option_map, position, ℕ}
use Rattle.vpc_model.specs.Types.{AttNo, Description, SubnetNo, TgwRoute, TgwTableNo}
use Rattle.prefix_text.specs.Block.{holds}
use Rattle.vpc_model.specs.Choice.{chosen_number, or_else}
use Rattle.vpc_model.specs.Lookup.{attachment_at, has_subnet, has_vpc, subnet_at, subnet_no, tgw_table_of_id}

-- the subnet is in the zone (EC2 API, DescribeSubnets)
abbrev pub is_in_zone : Description → List ℕ → List ℕ → Bool
is_in_zone d zone id = let s = subnet_at d (subnet_no d id) in bytes_eq s.zone zone

-- the first of these subnets in the zone
abbrev pub subnet_in_zone : Description → List ℕ → List (List ℕ) → Option SubnetNo
subnet_in_zone d zone ids = option_map (subnet_no d) (find (is_in_zone d zone) ids)

-- the first attachment of the gateway to the VPC of the subnet (EC2 API, DescribeTransitGatewayVpcAttachments)
abbrev pub attachment_for : Description → List ℕ → SubnetNo → Option AttNo
attachment_for d gateway s =
    let row = subnet_at d s in
    option_map (λ k. record { 0 = k }) (position (λ a. bytes_eq a.gateway gateway && bytes_eq a.vpc row.vpc) d.attachments)

-- the attachment's first subnet in the zone of the subnet (Transit Gateways guide, "How transit gateways work")
abbrev pub zone_subnet : Description → AttNo → SubnetNo → Option SubnetNo
zone_subnet d a s = let row = subnet_at d s in let att = attachment_at d a in subnet_in_zone d row.zone att.subnets

-- the described table that the attachment is associated with (EC2 API, DescribeTransitGatewayAttachments)
abbrev pub table_of_attachment : Description → AttNo → Option TgwTableNo
table_of_attachment d a =
    let att = attachment_at d a in
    option_and_then (λ x. tgw_table_of_id d x.table) (find (λ x. bytes_eq x.attachment att.id) d.associations)

-- the first route is longer, or equally long and static where the second is propagated (Transit Gateways guide, "How transit gateways work")
abbrev pub beats_tgw : TgwRoute → TgwRoute → Bool
beats_tgw r s = nat_lt s.block.length r.block.length || ((r.block.length == s.block.length) && (not r.propagated && s.propagated))

-- the number of the chosen route, where the profile takes the first of equal ones (Transit Gateways guide, "How transit gateways work")
abbrev pub chosen_tgw_route : List TgwRoute → ℕ → Option ℕ
chosen_tgw_route routes a = chosen_number (λ r. holds a r.block) beats_tgw routes

-- the first of these subnets (profile)
abbrev pub first_subnet : Description → List (List ℕ) → Option SubnetNo
first_subnet d [] = None
first_subnet d (id ∷ ids) = Some (subnet_no d id)

-- the same, where it is described (profile)
abbrev pub first_described : Description → List (List ℕ) → Option SubnetNo
first_described d [] = None
first_described d (id ∷ ids) = if has_subnet d id then Some (subnet_no d id) else None

-- by which subnet a packet leaves: the first in the zone where it entered, else the first; none without a described VPC or a subnet (profile)
abbrev pub leave_subnet : Description → AttNo → SubnetNo → Option SubnetNo
leave_subnet d a entered =
    let att = attachment_at d a in
    if has_vpc d att.vpc then or_else (zone_subnet d a entered) (first_subnet d att.subnets) else None
