-- What becomes of a line of a flow log.
use Rattle.std.specs.Prelude.{◌||◌, if◌then◌else◌, Bool, None, Option, Some, not, ℕ}
use Rattle.vpc_laws.specs.Types.{By, Description, Dir, EniNo, Header, Stop}
use Rattle.vpc_model.specs.Filter.{far_address}
use Rattle.vpc_model.specs.Lookup.{eni_no, has_interface, interface_at}
use Rattle.vpc_model.specs.Step.Crossing.{is_gateway}
use Rattle.flow_check.specs.Records.{has_ports}
use Rattle.flow_check.specs.Rules.{border_stop, connection_stop, direction_of, groups_pass, is_neighbour, met_first}
use Rattle.flow_check.specs.declared.kinds.FlowKind.TheVariants as kinds
use Rattle.flow_check.specs.declared.records.Action.{Action}
use Rattle.flow_check.specs.declared.records.Action.TheVariants as actions
use Rattle.flow_check.specs.declared.records.Flow.{Flow}
use Rattle.flow_check.specs.declared.records.Ports.{Ports}
use Rattle.flow_check.specs.declared.records.Record.{Record}
use Rattle.flow_check.specs.declared.records.Record.TheVariants as records
use Rattle.flow_check.specs.declared.sorts.Sort.{Sort}
use Rattle.flow_check.specs.declared.sorts.Sort.TheVariants as sorts

-- ---- by the rules

-- ACCEPT agrees where nothing stops the packet
abbrev pub accepted_by : Option Stop → Sort
accepted_by None = sorts.Agrees
accepted_by (Some s) = sorts.Differs (kinds.Accepted s)

-- REJECT agrees where the groups refuse the packet
abbrev pub refused_by : Option By → Sort
refused_by None = sorts.Agrees
refused_by (Some by) = sorts.Differs (kinds.Rejected by)

-- REJECT agrees where the ACL refuses the packet, or else the groups do: a packet of a connection would not have been rejected
abbrev pub rejected_by : Option Stop → Option By → Sort
rejected_by (Some s) by = sorts.Agrees
rejected_by None by = refused_by by

-- what the rules say of the action: an accepted packet may answer a connection that came the other way, a rejected one does not
abbrev pub judged_at : Description → EniNo → Dir → Header → Action → Bool → Sort
judged_at d i dir h actions.Accept inside = accepted_by (met_first dir (border_stop d i dir h inside) (connection_stop d i dir h))
judged_at d i dir h actions.Reject inside = rejected_by (border_stop d i dir h inside) (groups_pass d i dir h)

-- what the rules say of the action, by whether the far address is a neighbour's
abbrev pub judged : Description → EniNo → Dir → Header → Action → Sort
judged d i dir h action = judged_at d i dir h action (is_neighbour d (interface_at d i) (far_address dir h))

-- ---- by the flow

-- the header of a flow between two addresses
abbrev pub header_of : Ports → ℕ → ℕ → Header
header_of ports src dst = record { proto = ports.proto; src = src; dst = dst; p = ports.p; q = ports.q }

-- a flow in a direction is judged; one that the interface forwards, or sends itself, is skipped
abbrev pub sort_towards : Description → EniNo → Header → Action → Option Dir → Sort
sort_towards d i h action None = sorts.Skipped
sort_towards d i h action (Some dir) = judged d i dir h action

-- of IPv6 nothing is judged
abbrev pub sort_between : Description → EniNo → Ports → Action → Option ℕ → Option ℕ → Sort
sort_between d i ports action None dst = sorts.Skipped
sort_between d i ports action (Some src) None = sorts.Skipped
sort_between d i ports action (Some src) (Some dst) =
    sort_towards d i (header_of ports src dst) action (direction_of (interface_at d i) src dst)

-- a flow at a described interface: that of a gateway is skipped, and so is what is neither TCP nor UDP
abbrev pub sort_at : Description → EniNo → Flow → Sort
sort_at d i f =
    let e = interface_at d i in
    if is_gateway e.kind || not (has_ports f.ports.proto) then sorts.Skipped
    else sort_between d i f.ports f.action f.src f.dst

-- ---- by the line

-- what becomes of a line: its interface may be none that is described
abbrev pub sort_of : Description → Record → Sort
sort_of d records.NoData = sorts.NoData
sort_of d records.SkipData = sorts.SkipData
sort_of d (records.Seen f) = if has_interface d f.eni then sort_at d (eni_no d f.eni) f else sorts.Unknown
