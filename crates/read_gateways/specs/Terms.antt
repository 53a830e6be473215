-- The definitions that longer pages take, from one place.
pub use Rattle.read_gateways.specs.Gateways.{associations_of, attachments_of, gateways_of, igws_of, nats_of, peerings_of, tgw_tables_of, transit_of}
pub use Rattle.read_gateways.specs.Internet.{attached_vpc, internet_gateway_of}
pub use Rattle.read_gateways.specs.Nat.{life_if, nat_gateway_of}
pub use Rattle.read_gateways.specs.Outside.{blocks_of, endpoint_of, endpoints_of, far_attachment_of, far_endpoint, far_peering_by, far_peering_if, far_peering_of, firewall_of_endpoint, kind_of_resource, leading_of, outside_by, outside_of, private_gateway_of, resource_of, side_block, side_blocks, vpc_in_force, with_first}
pub use Rattle.read_gateways.specs.Peerings.{is_active_of, pair_if, peering_of}
pub use Rattle.read_gateways.specs.Scope.{attachment_option_of, gateway_option_of, group_vpc_of, ids_on, is_on_of, naming_attachments_of, naming_gateways_of, scope_of}
pub use Rattle.read_gateways.specs.Texts.{text_is}
pub use Rattle.read_gateways.specs.Transit.{attachment_of, destination_of, first_attachment, head_of, id_item, ipv4_route_of, is_usable_of, named_attachment, tgw_route_of, tgw_table_of}
