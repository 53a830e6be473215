-- Through a firewall endpoint.
use Rattle.std.specs.Prelude.{if◌then◌else◌}
use Rattle.vpc_model.specs.Types.{Description, FirewallNo, Header, SubnetNo}
use Rattle.vpc_model.specs.declared.places.Came.TheVariants as from
use Rattle.vpc_model.specs.declared.places.Place.TheVariants as places
use Rattle.vpc_model.specs.declared.stops.Stop.TheVariants as stops
use Rattle.vpc_model.specs.Appliances.{passes}
use Rattle.vpc_model.specs.Firewalls.{boxes_behind}
use Rattle.vpc_model.specs.Lookup.{firewall_at, subnet_no}
use Rattle.vpc_model.specs.Step.Words.{Moment, Next, Step, go, plain, stop}

-- the subnet of a firewall endpoint (EC2 API, DescribeVpcEndpoints)
abbrev pub firewall_subnet : Description → FirewallNo → SubnetNo
firewall_subnet d e = let row = firewall_at d e in subnet_no d row.subnet

-- on to the router of its subnet, if the firewall sends the packet on (Gateway Load Balancers guide, "Gateway Load Balancer endpoints")
abbrev pub step_inspect : Description → FirewallNo → Moment → Step
step_inspect d e m =
    plain m (if passes (boxes_behind d e) m.header then go (places.Router (firewall_subnet d e) (from.Firewall e)) m.header else stop (stops.InspectDrop e))
