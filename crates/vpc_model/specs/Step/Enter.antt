-- Into a VPC, from a gateway of it or from a peering.
use Rattle.std.specs.Prelude.{if◌then◌else◌, List, None, Option, Some, slice_index_or, ℕ}
use Rattle.vpc_model.specs.Types.{Description, EniNo, EnterBy, FirewallNo, Header, TableNo, Target, VpcNo}
use Rattle.vpc_model.specs.declared.places.Place.TheVariants as places
use Rattle.vpc_model.specs.declared.rows.Target.TheVariants as targets
use Rattle.vpc_model.specs.declared.stops.Foreign.TheVariants as foreign
use Rattle.vpc_model.specs.declared.stops.Stop.TheVariants as stops
use Rattle.vpc_model.specs.Firewalls.{entrance_table, firewall_of}
use Rattle.vpc_model.specs.Lookup.{eni_no, host_of, interface_at, subnet_of, table_at}
use Rattle.vpc_model.specs.Routes.{chosen_route}
use Rattle.vpc_model.specs.Step.Crossing.{deliver, entering, is_gateway}
use Rattle.vpc_model.specs.Step.Inspect.{firewall_subnet}
use Rattle.vpc_model.specs.Step.Router.{no_route}
use Rattle.vpc_model.specs.Step.Words.{Moment, Next, Step, go, plain, stop, unless_stopped}

-- to the interface of the VPC that has the destination, if its subnet's ACL lets the packet enter (VPC User Guide, "Network ACLs")
abbrev pub enter_host : Description → VpcNo → Header → Option EniNo → Next
enter_host d v h None = stop (stops.NoHost v)
enter_host d v h (Some i) = unless_stopped (entering d (subnet_of d i) h) (deliver d i h)

-- to an interface, such as an appliance's (VPC User Guide, "Gateway route tables")
abbrev pub enter_interface : Description → Header → EniNo → Next
enter_interface d h j =
    let e = interface_at d j in
    unless_stopped (entering d (subnet_of d j) h) (if is_gateway e.kind then stop (stops.NotAHost j) else go (places.Into j) h)

-- to a firewall endpoint of the VPC (VPC User Guide, "Gateway route tables")
abbrev pub enter_firewall : Description → Header → TableNo → ℕ → Option FirewallNo → Next
enter_firewall d h t k None = stop (stops.Unmodelled (foreign.Target t k))
enter_firewall d h t k (Some e) = unless_stopped (entering d (firewall_subnet d e) h) (go (places.Inspect e) h)

-- by the target of a route of a gateway's table: local, an interface or a firewall endpoint (VPC User Guide, "Gateway route tables")
abbrev pub enter_target : Description → VpcNo → Header → TableNo → ℕ → Target → Next
enter_target d v h t k targets.Local = enter_host d v h (host_of d v h.dst)
enter_target d v h t k (targets.Interface id) = enter_interface d h (eni_no d id)
enter_target d v h t k (targets.Other id) = enter_firewall d h t k (firewall_of d v id)
enter_target d v h t k (targets.Internet id) = stop (stops.Unmodelled (foreign.Target t k))
enter_target d v h t k (targets.Nat id) = stop (stops.Unmodelled (foreign.Target t k))
enter_target d v h t k (targets.Transit id) = stop (stops.Unmodelled (foreign.Target t k))
enter_target d v h t k (targets.Peer id) = stop (stops.Unmodelled (foreign.Target t k))

-- by the chosen route; a blackhole stops the packet (EC2 API, DescribeRouteTables)
abbrev pub enter_by_route : Description → VpcNo → Header → TableNo → Option ℕ → Next
enter_by_route d v h t None = stop (stops.NoRoute t)
enter_by_route d v h t (Some k) =
    let table = table_at d t in
    let r = slice_index_or table.routes k no_route in
    if r.blackhole then stop (stops.Blackhole t k) else enter_target d v h t k r.target

-- by the table of the gateway, if it has one; else no route is asked (profile)
abbrev pub enter_by_table : Description → VpcNo → Header → Option TableNo → Next
enter_by_table d v h None = enter_host d v h (host_of d v h.dst)
enter_by_table d v h (Some t) = let table = table_at d t in enter_by_route d v h t (chosen_route d table.routes h.dst)

-- into a VPC, from its internet gateway, a virtual private gateway, a gateway endpoint or a peering
abbrev pub step_enter : Description → VpcNo → EnterBy → Moment → Step
step_enter d v by m = plain m (enter_by_table d v m.header (entrance_table d v by))
