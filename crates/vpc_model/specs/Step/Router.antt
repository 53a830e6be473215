-- The implicit router of a subnet: by the target of the chosen route (VPC User Guide, "Route tables").
use Rattle.std.specs.Prelude.{◌==◌, [], if◌then◌else◌, Bool, List, None, Option, Some, false, slice_index_or, true, ℕ}
use Rattle.vpc_model.specs.Types.{AttNo, Description, EniNo, FarKind, FarNo, FirewallNo, Header, IgwNo, NatLife, NatNo, PeerNo, Route, SubnetNo, TableNo, Target, VpcNo}
use Rattle.vpc_model.specs.declared.stops.Foreign.TheVariants as foreign
use Rattle.vpc_model.specs.declared.rows.FarKind.TheVariants as fars
use Rattle.vpc_model.specs.declared.rows.NatLife.TheVariants as lives
use Rattle.vpc_model.specs.declared.places.Place.TheVariants as places
use Rattle.vpc_model.specs.declared.rows.Reach.TheVariants as reaches
use Rattle.vpc_model.specs.declared.stops.Stop.TheVariants as stops
use Rattle.vpc_model.specs.declared.rows.Target.TheVariants as targets
use Rattle.vpc_model.specs.Choice.{or_else}
use Rattle.vpc_model.specs.Far.{far_end_of_id, far_of_id, vpc_beside}
use Rattle.vpc_model.specs.Firewalls.{firewall_of}
use Rattle.vpc_model.specs.Lookup.{eni_no, far_at, gateway_of, has_vpc, host_of, igw_no, interface_at, nat_at, nat_no, peer_no, peering_at, subnet_no, subnet_of, table_at, table_of, vpc_at, vpc_of_subnet}
use Rattle.vpc_model.specs.Peerings.{other_side}
use Rattle.vpc_model.specs.Routes.{chosen_route}
use Rattle.vpc_model.specs.Step.Crossing.{crossing, deliver, entering, is_gateway, leaving}
use Rattle.vpc_model.specs.Step.Inspect.{firewall_subnet}
use Rattle.vpc_model.specs.Step.Words.{Moment, Next, Step, go, plain, stop, unless_stopped}
use Rattle.vpc_model.specs.Transit.{attachment_for, zone_subnet}

-- a local route: to the interface that has the destination (VPC User Guide, "Route tables")
abbrev pub to_host : Description → SubnetNo → Header → Option EniNo → Next
to_host d s h None = stop (stops.NoHost (vpc_of_subnet d s))
to_host d s h (Some i) = unless_stopped (crossing d s (subnet_of d i) h) (deliver d i h)

-- the first gateway is attached, and is the second
abbrev pub is_attached : IgwNo → Option IgwNo → Bool
is_attached g None = false
is_attached g (Some attached) = attached.0 == g.0

-- a route to an internet gateway, which is attached to the VPC (VPC User Guide, "Internet gateways")
abbrev pub to_internet : Description → SubnetNo → Header → IgwNo → Next
to_internet d s h g =
    let v = vpc_of_subnet d s in
    if is_attached g (gateway_of d v) then unless_stopped (leaving d s h) (go (places.IgwOut v) h) else stop (stops.GatewayDetached g)

-- a route to a NAT gateway, which is available (VPC User Guide, "NAT gateways")
abbrev pub to_nat : Description → SubnetNo → Header → NatNo → NatLife → Next
to_nat d s h n lives.Gone = stop (stops.NatNotAvailable n)
to_nat d s h n lives.Unmodelled = stop (stops.Unmodelled (foreign.Nat n))
to_nat d s h n (lives.Live subnet eni address) = unless_stopped (crossing d s (subnet_no d subnet) h) (go (places.NatOut n) h)

-- into a network that isn't described
abbrev pub to_far : Description → SubnetNo → Header → FarNo → Next
to_far d s h k = unless_stopped (leaving d s h) (go (places.FarOut k) h)

-- a peering with a VPC that isn't described, whose blocks may be told (EC2 API, DescribeVpcPeeringConnections)
abbrev pub to_half_peering : Description → SubnetNo → Header → PeerNo → Option FarNo → Next
to_half_peering d s h x None = stop (stops.Unmodelled (foreign.Peering x))
to_half_peering d s h x (Some k) = to_far d s h k

-- a route to a peering, which is active (VPC Peering Guide, "VPC peering basics")
abbrev pub to_peer : Description → SubnetNo → Header → PeerNo → Option (List ℕ × List ℕ) → Next
to_peer d s h x None = stop (stops.PeerNotActive x)
to_peer d s h x (Some pair) =
    let v = vpc_of_subnet d s in
    let row = vpc_at d v in
    let peering = peering_at d x in
    if has_vpc d (other_side row.id pair) then unless_stopped (leaving d s h) (go (places.Peer x v) h) else to_half_peering d s h x (far_end_of_id d peering.id)

-- into the attachment's subnet, whose ACL is evaluated even if it is the sender's (Transit Gateways guide, "How transit gateways work")
abbrev pub to_zone : Description → SubnetNo → Header → AttNo → Option SubnetNo → Next
to_zone d s h a None = stop (stops.TgwNoZone a)
to_zone d s h a (Some t) = unless_stopped (or_else (leaving d s h) (entering d t h)) (go (places.Tgw a t) h)

-- a route to a transit gateway, which has an attachment here (Transit Gateways guide, "How transit gateways work")
abbrev pub to_transit : Description → SubnetNo → Header → TableNo → ℕ → Option AttNo → Next
to_transit d s h t k None = stop (stops.TgwNoAttachment t k)
to_transit d s h t k (Some a) = to_zone d s h a (zone_subnet d a s)

-- a route to an interface, such as an instance that forwards (VPC User Guide, "Route tables")
abbrev pub to_interface : Description → SubnetNo → Header → EniNo → Next
to_interface d s h j =
    let e = interface_at d j in
    unless_stopped (crossing d s (subnet_of d j) h) (if is_gateway e.kind then stop (stops.NotAHost j) else go (places.Into j) h)

-- the VPC is the one beside a network
abbrev pub is_beside : VpcNo → Option VpcNo → Bool
is_beside v None = false
is_beside v (Some w) = w.0 == v.0

-- a route to a virtual private gateway, which is attached to the VPC (Site-to-Site VPN User Guide, "Route tables and route priority")
abbrev pub to_private_gateway : Description → SubnetNo → Header → FarNo → Bool → Next
to_private_gateway d s h k attached = if attached then to_far d s h k else stop (stops.FarDetached k)

-- a route to a gateway endpoint, which lies in the VPC (EC2 API, DescribeVpcEndpoints)
abbrev pub to_endpoint : Description → SubnetNo → Header → TableNo → ℕ → FarNo → Bool → Next
to_endpoint d s h t k far inside = if inside then to_far d s h far else stop (stops.Unmodelled (foreign.Target t k))

-- by what leads to a network that isn't described; routes to attachments and peerings are of other kinds
abbrev pub to_network_by : Description → SubnetNo → Header → TableNo → ℕ → FarNo → FarKind → Next
to_network_by d s h t k far (fars.PrivateGateway vpc) = to_private_gateway d s h far (is_beside (vpc_of_subnet d s) (vpc_beside d (far_at d far)))
to_network_by d s h t k far (fars.Endpoint vpc) = to_endpoint d s h t k far (is_beside (vpc_of_subnet d s) (vpc_beside d (far_at d far)))
to_network_by d s h t k far (fars.Attachment vpc) = stop (stops.Unmodelled (foreign.Target t k))
to_network_by d s h t k far (fars.Peering requester accepter) = stop (stops.Unmodelled (foreign.Target t k))

-- a route to a firewall endpoint of the VPC (VPC User Guide, "Middlebox routing")
abbrev pub to_firewall : Description → SubnetNo → Header → TableNo → ℕ → Option FirewallNo → Next
to_firewall d s h t k None = stop (stops.Unmodelled (foreign.Target t k))
to_firewall d s h t k (Some e) = unless_stopped (crossing d s (firewall_subnet d e) h) (go (places.Inspect e) h)

-- a route to what has no row of its own kind in a table
abbrev pub to_other : Description → SubnetNo → Header → TableNo → ℕ → List ℕ → Option FarNo → Next
to_other d s h t k id None = to_firewall d s h t k (firewall_of d (vpc_of_subnet d s) id)
to_other d s h t k id (Some far) = let row = far_at d far in to_network_by d s h t k far row.kind

-- by the target of the route (EC2 API, DescribeRouteTables)
abbrev pub to_target : Description → SubnetNo → Header → TableNo → ℕ → Target → Next
to_target d s h t k targets.Local = to_host d s h (host_of d (vpc_of_subnet d s) h.dst)
to_target d s h t k (targets.Internet id) = to_internet d s h (igw_no d id)
to_target d s h t k (targets.Nat id) = let n = nat_no d id in let row = nat_at d n in to_nat d s h n row.life
to_target d s h t k (targets.Peer id) = let x = peer_no d id in let row = peering_at d x in to_peer d s h x row.pair
to_target d s h t k (targets.Transit id) = to_transit d s h t k (attachment_for d id s)
to_target d s h t k (targets.Interface id) = to_interface d s h (eni_no d id)
to_target d s h t k (targets.Other id) = to_other d s h t k id (far_of_id d id)

-- a route that no table has
abbrev pub no_route : Route
no_route = record { reach = reaches.List []; target = targets.Local; blackhole = true; propagated = false }

-- by the chosen route; a blackhole stops the packet (EC2 API, DescribeRouteTables)
abbrev pub by_route : Description → SubnetNo → Header → TableNo → Option ℕ → Next
by_route d s h t None = stop (stops.NoRoute t)
by_route d s h t (Some k) =
    let table = table_at d t in
    let r = slice_index_or table.routes k no_route in
    if r.blackhole then stop (stops.Blackhole t k) else to_target d s h t k r.target

-- the implicit router of a subnet (VPC User Guide, "Route tables")
abbrev pub step_router : Description → SubnetNo → Moment → Step
step_router d s m =
    let t = table_of d s in
    let table = table_at d t in
    plain m (by_route d s m.header t (chosen_route d table.routes m.header.dst))
