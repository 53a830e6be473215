-- The definitions that longer pages take, from one place.
pub use Rattle.read_network.specs.Appliances.{appliances_of}
pub use Rattle.read_network.specs.Interfaces.{addresses_of, delegated_prefix, interface_of, is_listed, manner_of, private_address, with_primary}
pub use Rattle.read_network.specs.Network.{interfaces_of, network_of, subnets_of, tables_of, vpcs_of}
pub use Rattle.read_network.specs.PrefixLists.{prefix_lists_of}
pub use Rattle.read_network.specs.Routes.{Choice, choices, first_target, gateway_target, reach_by_block, reach_by_list, reach_of, route_if, route_of, route_to, target_of, target_or}
pub use Rattle.read_network.specs.Subnets.{subnet_of}
pub use Rattle.read_network.specs.Tables.{gateways_of, table_association, table_of}
pub use Rattle.read_network.specs.Vpcs.{associated_block, vpc_of}
