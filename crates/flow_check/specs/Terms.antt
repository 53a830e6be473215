-- The definitions that longer pages take, from one place.
pub use Rattle.flow_check.specs.Flows.{FlowList, bad_line, differing, flows_of, sorted_lines, told_of, told_unless}
pub use Rattle.flow_check.specs.Lines.{numbered_lines}
pub use Rattle.flow_check.specs.Meanings.{AcceptMeans, RejectMeans}
pub use Rattle.flow_check.specs.Records.{has_ports, record_of}
pub use Rattle.flow_check.specs.Rules.{acl_stop, border_stop, by_groups, connection_stop, direction_of, groups_pass, groups_stop, is_neighbour, met_first, other_way_passes, pass_reply}
pub use Rattle.flow_check.specs.Sorts.{accepted_by, header_of, judged, judged_at, refused_by, rejected_by, sort_at, sort_between, sort_of, sort_towards}
pub use Rattle.flow_check.specs.Told.{is_told}
pub use Rattle.flow_check.specs.Walked.{AcceptedLinesAgree, IsJudged, IsStopped, Passes, PassesIn, PassesOut, RejectedLinesAgree, acl_row_stop, door, flow_at, has_border, is_inside, is_router_of, sort_at_interface, subnet_of_nat}
pub use Rattle.flow_check.specs.declared.kinds.FlowLine.{FlowLine}
pub use Rattle.flow_check.specs.declared.records.Action.{Action}
pub use Rattle.flow_check.specs.declared.records.Flow.{Flow}
pub use Rattle.flow_check.specs.declared.records.Ports.{Ports}
pub use Rattle.flow_check.specs.declared.records.Record.{Record}
pub use Rattle.flow_check.specs.declared.sorts.Sort.{Sort}
