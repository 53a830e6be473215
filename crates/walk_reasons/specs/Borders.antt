-- Which subnets' ACLs judge a packet on the way that a route leads it.
use Rattle.std.specs.Prelude.{◌==◌, if◌then◌else◌, IfSome, List, None, Option, Some, slice_index_or, true, ◌≡◌, ℕ}
use Rattle.vpc_laws.specs.Types.{Description, EniNo, FarKind, FarNo, FirewallNo, Header, IgwNo, NatLife, SubnetNo, TableNo, Target, VpcNo}
use Rattle.vpc_model.specs.Far.{far_end_of_id, far_of_id, vpc_beside}
use Rattle.vpc_model.specs.Firewalls.{firewall_of}
use Rattle.vpc_model.specs.declared.rows.FarKind.TheVariants as fars
use Rattle.vpc_model.specs.declared.rows.NatLife.TheVariants as lives
use Rattle.vpc_model.specs.declared.rows.Target.TheVariants as targets
use Rattle.vpc_model.specs.Lookup.{eni_no, far_at, gateway_of, has_vpc, host_of, igw_no, nat_at, nat_no, peer_no, peering_at, subnet_no, subnet_of, table_at, vpc_at, vpc_of_subnet}
use Rattle.vpc_model.specs.Peerings.{other_side}
use Rattle.vpc_model.specs.Sound.{is_subnet}
use Rattle.vpc_model.specs.Step.Inspect.{firewall_subnet}
use Rattle.vpc_model.specs.Step.Router.{is_attached, is_beside, no_route}
use Rattle.vpc_model.specs.Transit.{attachment_for, zone_subnet}
use Rattle.vpc_model.specs.declared.numbers.AttNo.{AttNo}
use Rattle.walk_reasons.specs.declared.borders.Borders.{Borders}

-- none
abbrev pub no_borders : Borders
no_borders = record { left = None; entered = None }

-- out of a subnet to what lies in none
abbrev pub out_of : SubnetNo → Borders
out_of s = record { left = Some s; entered = None }

-- into a subnet from what lies in none
abbrev pub into : SubnetNo → Borders
into t = record { left = None; entered = Some t }

-- from the one into the other, even where the two are one
abbrev pub from_into : SubnetNo → SubnetNo → Borders
from_into s t = record { left = Some s; entered = Some t }

-- from one subnet to another; inside one subnet none is asked (VPC User Guide, "Network ACLs")
abbrev pub across : SubnetNo → SubnetNo → Borders
across s t = if s.0 == t.0 then no_borders else from_into s t

-- a local route: to the subnet of the interface that has the destination (VPC User Guide, "Route tables")
abbrev pub to_host : Description → SubnetNo → Option EniNo → Borders
to_host d s None = no_borders
to_host d s (Some i) = across s (subnet_of d i)

-- to the internet gateway that is attached (VPC User Guide, "Internet gateways")
abbrev pub to_internet : Description → SubnetNo → IgwNo → Borders
to_internet d s g = if is_attached g (gateway_of d (vpc_of_subnet d s)) then out_of s else no_borders

-- to the subnet of a NAT gateway that is available (VPC User Guide, "NAT gateways")
abbrev pub to_nat : Description → SubnetNo → NatLife → Borders
to_nat d s lives.Gone = no_borders
to_nat d s lives.Unmodelled = no_borders
to_nat d s (lives.Live subnet eni address) = across s (subnet_no d subnet)

-- into a network that isn't described, if it is followed there
abbrev pub to_outside : SubnetNo → Option FarNo → Borders
to_outside s None = no_borders
to_outside s (Some far) = out_of s

-- to an active peering with a described VPC, or with one whose blocks are told (VPC Peering Guide, "VPC peering basics")
abbrev pub to_peer : Description → SubnetNo → List ℕ → Option (List ℕ × List ℕ) → Borders
to_peer d s id None = no_borders
to_peer d s id (Some pair) =
    let row = vpc_at d (vpc_of_subnet d s) in
    if has_vpc d (other_side row.id pair) then out_of s else to_outside s (far_end_of_id d id)

-- to what leads to a network: a virtual private gateway or a gateway endpoint of the VPC (EC2 API, DescribeVpnGateways)
abbrev pub to_network_by : Description → SubnetNo → FarNo → FarKind → Borders
to_network_by d s far (fars.PrivateGateway vpc) = if is_beside (vpc_of_subnet d s) (vpc_beside d (far_at d far)) then out_of s else no_borders
to_network_by d s far (fars.Endpoint vpc) = if is_beside (vpc_of_subnet d s) (vpc_beside d (far_at d far)) then out_of s else no_borders
to_network_by d s far (fars.Attachment vpc) = no_borders
to_network_by d s far (fars.Peering requester accepter) = no_borders

-- to the subnet of a firewall endpoint (VPC User Guide, "Middlebox routing")
abbrev pub to_firewall : Description → SubnetNo → Option FirewallNo → Borders
to_firewall d s None = no_borders
to_firewall d s (Some e) = across s (firewall_subnet d e)

-- to what has no kind of its own in a table
abbrev pub to_other : Description → SubnetNo → List ℕ → Option FarNo → Borders
to_other d s id None = to_firewall d s (firewall_of d (vpc_of_subnet d s) id)
to_other d s id (Some far) = let row = far_at d far in to_network_by d s far row.kind

-- into the attachment's subnet, even if it is the sender's (Transit Gateways guide, "How transit gateways work")
abbrev pub to_zone : SubnetNo → Option SubnetNo → Borders
to_zone s None = no_borders
to_zone s (Some t) = from_into s t

-- to a transit gateway that has an attachment here (Transit Gateways guide, "How transit gateways work")
abbrev pub to_transit : Description → SubnetNo → Option AttNo → Borders
to_transit d s None = no_borders
to_transit d s (Some a) = to_zone s (zone_subnet d a s)

-- by the target of the route (EC2 API, DescribeRouteTables)
abbrev pub to_target : Description → SubnetNo → Header → Target → Borders
to_target d s h targets.Local = to_host d s (host_of d (vpc_of_subnet d s) h.dst)
to_target d s h (targets.Internet id) = to_internet d s (igw_no d id)
to_target d s h (targets.Nat id) = let row = nat_at d (nat_no d id) in to_nat d s row.life
to_target d s h (targets.Peer id) = let row = peering_at d (peer_no d id) in to_peer d s row.id row.pair
to_target d s h (targets.Transit id) = to_transit d s (attachment_for d id s)
to_target d s h (targets.Interface id) = across s (subnet_of d (eni_no d id))
to_target d s h (targets.Other id) = to_other d s id (far_of_id d id)

-- by a route of a table: none where its target is gone (EC2 API, DescribeRouteTables)
abbrev pub of_route : Description → SubnetNo → Header → TableNo → ℕ → Borders
of_route d s h t k =
    let table = table_at d t in
    let r = slice_index_or table.routes k no_route in
    if r.blackhole then no_borders else to_target d s h r.target

-- where a packet enters a VPC: the subnet of the interface that has the destination (VPC User Guide, "Network ACLs")
abbrev pub of_host : Description → Option EniNo → Borders
of_host d None = no_borders
of_host d (Some i) = into (subnet_of d i)

-- the subnet of a firewall endpoint, if it is one that is followed
abbrev pub of_firewall : Description → Option FirewallNo → Borders
of_firewall d None = no_borders
of_firewall d (Some e) = into (firewall_subnet d e)

-- by the target of a route of a gateway's table (VPC User Guide, "Gateway route tables")
abbrev pub of_target : Description → VpcNo → Header → Target → Borders
of_target d v h targets.Local = of_host d (host_of d v h.dst)
of_target d v h (targets.Interface id) = into (subnet_of d (eni_no d id))
of_target d v h (targets.Other id) = of_firewall d (firewall_of d v id)
of_target d v h (targets.Internet id) = no_borders
of_target d v h (targets.Nat id) = no_borders
of_target d v h (targets.Transit id) = no_borders
of_target d v h (targets.Peer id) = no_borders

-- by a route of such a table: none where its target is gone
abbrev pub of_entrance : Description → VpcNo → Header → TableNo → ℕ → Borders
of_entrance d v h t k =
    let table = table_at d t in
    let r = slice_index_or table.routes k no_route in
    if r.blackhole then no_borders else of_target d v h r.target

-- the subnets are described
pub record AreSubnets (d : Description) (b : Borders) : Type 0 where
  pub left : IfSome b.left (λ s. is_subnet d s ≡ true)
  pub entered : IfSome b.entered (λ t. is_subnet d t ≡ true)
