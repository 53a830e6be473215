-- The definitions that longer pages take, from one place.
pub use Rattle.transit_gateway.specs.Gateways.{AreGateways, HasGatewaysOf, attachment_entries, attachment_in, gateway_no}
pub use Rattle.transit_gateway.specs.Index.{AreRouteTables, HasAttachment, HasFar, HasSubnet, HasTable, IsTransitOf, enter_by, enter_zone, entered, entered_in, routes_of}
pub use Rattle.transit_gateway.specs.Lists.{TransitLists}
pub use Rattle.transit_gateway.specs.Rows.{IsRouteTable}
pub use Rattle.transit_gateway.specs.Sites.{site_at, site_of, zone_no}
pub use Rattle.transit_gateway.specs.Tables.{AreAssociated, table_behind, table_of_row}
pub use Rattle.transit_gateway.specs.Zones.{HasZonesOf, first_of, inner_subnets, leaving, zone_entries, zone_entry, zone_subnet_in}
pub use Rattle.transit_gateway.specs.declared.index.EnterStop.{EnterStop}
pub use Rattle.transit_gateway.specs.declared.sites.Site.{Site}
