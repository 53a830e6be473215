-- Out of an interface and into one, which may be that of an appliance.
use Rattle.std.specs.Prelude.{◌&&◌, if◌then◌else◌, List, None, Some, not}
use Rattle.vpc_model.specs.Types.{Box5, Description, EniNo, Header, Label}
use Rattle.vpc_base.specs.declared.headers.Dir.TheVariants as dirs
use Rattle.vpc_model.specs.declared.places.End.TheVariants as ends
use Rattle.vpc_model.specs.declared.places.Came.TheVariants as from
use Rattle.vpc_model.specs.declared.places.Place.TheVariants as places
use Rattle.vpc_model.specs.declared.stops.Stop.TheVariants as stops
use Rattle.vpc_model.specs.Appliances.{Appliances, boxes_at, passes}
use Rattle.vpc_model.specs.Connections.{Passing, passing_of}
use Rattle.vpc_model.specs.Lookup.{has_address, interface_at, subnet_of}
use Rattle.vpc_model.specs.Step.Words.{Moment, Next, Step, arrive, go, plain, stop}

-- on to the router, if the groups let the packet pass (VPC User Guide, "Security groups")
abbrev pub out_passing : Description → EniNo → Moment → Passing → Step
out_passing d i m p =
    elim p.by [
      | None ↦ plain m (stop (stops.GroupsOut i))
      | Some by ↦ record { next = go (places.Router (subnet_of d i) (from.Host i)) m.header; by = by; conns = p.conns; nats = m.nats }
    ]

-- out of an interface: attached (which the profile asks), source check, groups (EC2 API, DescribeNetworkInterfaces)
abbrev pub step_out : Description → Label → EniNo → Moment → Step
step_out d label i m =
    let e = interface_at d i in
    if e.idle then plain m (stop (stops.Detached i))
    else (if e.checked && not (has_address e m.header.src) then plain m (stop (stops.SourceCheck i))
    else out_passing d i m (passing_of d label i dirs.Outward m.header m.conns))

-- an appliance sends on what its boxes hold, and keeps no connections (profile)
abbrev pub forwarded : EniNo → Header → List Box5 → Next
forwarded i h boxes = if passes boxes h then go (places.OutOf i) h else stop (stops.ApplianceDrop i)

-- arrived, unless the interface is an appliance's and the packet is for another address (profile)
abbrev pub taken_in : Description → Appliances → EniNo → Header → Next
taken_in d appliances i h =
    elim (boxes_at appliances i) [
      | None ↦ arrive (ends.Interface i)
      | Some boxes ↦ if has_address (interface_at d i) h.dst then arrive (ends.Interface i) else forwarded i h boxes
    ]

-- arrived or sent on, if the groups let the packet pass (VPC User Guide, "Security groups")
abbrev pub in_passing : Description → Appliances → EniNo → Moment → Passing → Step
in_passing d appliances i m p =
    elim p.by [
      | None ↦ plain m (stop (stops.GroupsIn i))
      | Some by ↦ record { next = taken_in d appliances i m.header; by = by; conns = p.conns; nats = m.nats }
    ]

-- into an interface: attached (which the profile asks), destination check, groups (EC2 API, DescribeNetworkInterfaces)
abbrev pub step_into : Description → Appliances → Label → EniNo → Moment → Step
step_into d appliances label i m =
    let e = interface_at d i in
    if e.idle then plain m (stop (stops.Detached i))
    else (if e.checked && not (has_address e m.header.dst) then plain m (stop (stops.DestCheck i))
    else in_passing d appliances i m (passing_of d label i dirs.Inward m.header m.conns))
