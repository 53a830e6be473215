-- The definitions that longer pages take, from one place.
pub use Rattle.vpc_model.specs.Access.{access_in, access_of, access_text, stops_at}
pub use Rattle.vpc_model.specs.Accepted.{Claim, IsAccepted, address_claims, claims_of, clash_with, clashes_after, duplicate_ids, first_cause, first_shared, is_side, is_subnet_of, least_shared, lesser, meets, prefix_claims, private_addresses, refusals_of, same_address}
pub use Rattle.vpc_model.specs.Acls.{acl_verdict, verdict_of_row}
pub use Rattle.vpc_model.specs.Appliances.{Appliances, appliances_of, boxes_at, passes}
pub use Rattle.vpc_model.specs.Choice.{is_unbeaten, or_else}
pub use Rattle.vpc_model.specs.Connections.{Connection, Passing, added, answer_passing, is_header, is_tracked, label_passing, open_passing, passing_groups, passing_of, same_connection, same_header}
pub use Rattle.vpc_model.specs.Cuts.{address_cuts, all_cuts, all_permissions, asked_at, block_cuts, blocks_of_permission, blocks_of_reach, cuts_at, cuts_at_interface, cuts_at_tgw_table, cuts_of, cuts_of_acl_row, cuts_of_blocks, cuts_of_box, cuts_of_group, cuts_of_group_id, cuts_of_interface, cuts_of_permission, cuts_of_route, cuts_of_rule, cuts_of_table, cuts_of_tgw_table, cuts_of_vpc, fixed_cuts, on_sides, pair_cuts, standing_cuts}
pub use Rattle.vpc_model.specs.Filter.{far_address, is_between, matches_proto}
pub use Rattle.vpc_model.specs.Groups.{are_on_one, are_over_transit, are_peers, first_rule, first_rule_of, is_inward, is_member, lets_name, may_name, names_address, no_permission, permission_allows, permissions_of, reference_counts, rule_of_group, vpc_of_rules, vpcs_of_group}
pub use Rattle.vpc_model.specs.Id.{is_id}
pub use Rattle.vpc_model.specs.Internet.{is_unroutable, owned_by, owner_of, pair_of, pairs_in, pairs_of, private_of, public_of}
pub use Rattle.vpc_model.specs.Lookup.{acl_at, acl_of, addresses_in, attached_gateway, attachment_at, attachment_of_id, both_addresses, eni_no, entries_of, gateway_of, group_at, group_of_id, has_address, has_interface, has_subnet, has_vpc, host_of, igw_at, igw_no, interface_at, is_assigned, is_in_vpc, is_listed, nat_at, nat_no, no_acl, no_attachment, no_group, no_igw, no_interface, no_nat, no_peering, no_scope, no_subnet, no_table, no_tgw_table, no_vpc, peer_no, peering_at, subnet_at, subnet_no, subnet_of, table_at, table_of, tgw_table_at, tgw_table_of_id, vpc_at, vpc_no, vpc_of_interface, vpc_of_subnet}
pub use Rattle.vpc_model.specs.Names.{name_text}
pub use Rattle.vpc_model.specs.Nat.{Translation, first_free, first_port, free_port, inward, is_full, is_taken, is_translatable, new_translation, shares, translation_of}
pub use Rattle.vpc_model.specs.Near.{cuts_of_hops, near_cuts}
pub use Rattle.vpc_model.specs.Peerings.{has_block, other_side}
pub use Rattle.vpc_model.specs.Place.{start_of}
pub use Rattle.vpc_model.specs.Replay.{moment_of, walks_after}
pub use Rattle.vpc_model.specs.Report.{IsCellCount, ending_of}
pub use Rattle.vpc_model.specs.Routes.{beats, chosen_route, is_candidate, is_local, kind_of, kind_of_reach, match_length, matches}
pub use Rattle.vpc_model.specs.Sound.{has_foreign_text, has_gateway, has_rule, has_text, is_acl, is_attachment, is_end, is_eni, is_entry, is_group, is_igw, is_live, is_nat, is_origin, is_peering, is_route, is_rule, is_sound, is_subnet, is_table, is_tgw_route, is_tgw_table, is_vpc, joins}
pub use Rattle.vpc_model.specs.Step.{step_at, step_of}
pub use Rattle.vpc_model.specs.Step.Crossing.{crossing, deliver, deliver_by, entering, is_eni_of, is_gateway, leaving, nat_of}
pub use Rattle.vpc_model.specs.Step.Enter.{enter_host}
pub use Rattle.vpc_model.specs.Step.Interface.{forwarded, in_passing, out_passing, step_into, step_out, taken_in}
pub use Rattle.vpc_model.specs.Step.Internet.{blocked, blocked_at, go_private, go_public, is_blocked, step_internet, to_owner}
pub use Rattle.vpc_model.specs.Step.Nat.{from_inward, from_nat, own_address, own_subnet, step_nat_in, step_nat_out, translate, translated_to}
pub use Rattle.vpc_model.specs.Step.Peering.{by_pair, over_peering}
pub use Rattle.vpc_model.specs.Step.Router.{by_route, is_attached, no_route, step_router, to_host, to_interface, to_internet, to_nat, to_peer, to_target, to_transit, to_zone}
pub use Rattle.vpc_model.specs.Step.Transit.{by_attachment, by_tgw_route, by_tgw_table, leave_by, no_tgw_route, to_attachment}
pub use Rattle.vpc_model.specs.Step.Words.{Moment, Next, Step, arrive, go, plain, stop, unless_stopped}
pub use Rattle.vpc_model.specs.Told.{component_id, component_of, end_id, foreign_id, name_of, place_id, reach_text, route_target_id, rule_of, rule_text, stop_id, stop_rule, target_id, tgw_route_attachment, told_stop}
pub use Rattle.vpc_model.specs.Transit.{attachment_for, beats_tgw, chosen_tgw_route, first_subnet, is_in_zone, leave_subnet, subnet_in_zone, table_of_attachment, zone_subnet}
pub use Rattle.vpc_model.specs.Verdict.{Homes, alone, homes_among, hops_after, hops_of_reply, is_home, reply_hops, reply_walk, request_walk, same_end, verdict_by, verdict_of, verdict_of_arrival, verdict_of_reply, verdict_of_request}
pub use Rattle.vpc_model.specs.Walk.{Walk, ended, is_visited, same_place, walk_of, walk_on}
