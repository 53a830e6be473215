-- What an index is of a description.
use Rattle.std.specs.Prelude.{◌≡◌, ◌<◌, Err, List, None, Ok, Option, Result, Some, length, map, slice_index_or, true, ℕ}
use Rattle.piece_table.specs.Pieces.{PieceLists}
use Rattle.vpc_laws.specs.Types.{AttNo, Description, FarNo, SubnetNo, TgwRoute, TgwTable, TgwTableNo}
use Rattle.vpc_model.specs.Lookup.{tgw_table_at}
use Rattle.vpc_model.specs.Sound.{is_attachment, is_subnet}
use Rattle.vpc_model.specs.Transit.{attachment_for, leave_subnet, zone_subnet}
use Rattle.transit_gateway.specs.Gateways.{attachment_in}
use Rattle.transit_gateway.specs.Lists.{TransitLists}
use Rattle.transit_gateway.specs.Rows.{IsRouteTable}
use Rattle.transit_gateway.specs.Sites.{site_at}
use Rattle.transit_gateway.specs.Tables.{table_behind, table_of_row}
use Rattle.transit_gateway.specs.Zones.{leaving, zone_subnet_in}
use Rattle.transit_gateway.specs.declared.index.EnterStop.{EnterStop}
use Rattle.transit_gateway.specs.declared.index.EnterStop.TheVariants as stops

-- ---- coming in

-- by an attachment, into its subnet in the zone
abbrev pub enter_zone : AttNo → Option SubnetNo → Result (AttNo × SubnetNo) EnterStop
enter_zone a None = Err (stops.NoZone a)
enter_zone a (Some t) = Ok (a, t)

-- by an attachment, if there is one
abbrev pub enter_by : Option AttNo → (AttNo → Option SubnetNo) → Result (AttNo × SubnetNo) EnterStop
enter_by None zone = Err stops.NoAttachment
enter_by (Some a) zone = enter_zone a (zone a)

-- by the first attachment of the gateway to the subnet's VPC, into its first subnet of the zone (Transit Gateways
-- guide, "How transit gateways work")
abbrev pub entered : Description → List ℕ → SubnetNo → Result (AttNo × SubnetNo) EnterStop
entered d gateway s = enter_by (attachment_for d gateway s) (λ a. zone_subnet d a s)

-- what the index tells
abbrev pub entered_in : TransitLists → List ℕ → SubnetNo → Result (AttNo × SubnetNo) EnterStop
entered_in x gateway s =
    let site = site_at x.sites s in
    enter_by (attachment_in x.gateways x.attachments gateway site.vpc) (λ a. zone_subnet_in x.sites x.subnets a s)

-- ---- routes

-- the routes of a table (EC2 API, SearchTransitGatewayRoutes)
abbrev pub routes_of : Description → TgwTableNo → List TgwRoute
routes_of d t = let table = tgw_table_at d t in table.routes

-- the pieces are those of the tables, in their order
pub record AreRouteTables (tables : List TgwTable) (pieces : List PieceLists) : Type 0 where
  pub all : length pieces ≡ length tables
  pub each : (k : ℕ) (t : TgwTable) (p : PieceLists) → k < length tables
      → IsRouteTable (slice_index_or tables k t).routes (slice_index_or pieces k p)

-- ---- all of it

-- the index tells what the description says, of each of its subnets, attachments, tables and networks that aren't described
pub record IsTransitOf (d : Description) (x : TransitLists) : Type 0 where
  pub subnets : length x.sites ≡ length d.subnets
  pub enter : (gateway : List ℕ) (s : SubnetNo) → is_subnet d s ≡ true
      → entered_in x gateway s ≡ entered d gateway s
  pub leave : (a : AttNo) (s : SubnetNo) → is_attachment d a ≡ true → is_subnet d s ≡ true
      → leaving x.sites x.subnets x.firsts a s ≡ leave_subnet d a s
  pub firsts : length x.firsts ≡ length d.attachments
  pub tables : x.tables ≡ map (table_of_row d) d.attachments
  pub behind : x.behind ≡ map (table_behind d) d.fars
  pub routes : AreRouteTables d.tgw_tables x.routes

-- the index has the subnet
abbrev pub HasSubnet : TransitLists → SubnetNo → Type 0
HasSubnet x s = s.0 < length x.sites

-- the index has the attachment
abbrev pub HasAttachment : TransitLists → AttNo → Type 0
HasAttachment x a = (a.0 < length x.tables) × (a.0 < length x.firsts)

-- the index has the network
abbrev pub HasFar : TransitLists → FarNo → Type 0
HasFar x k = k.0 < length x.behind

-- the index has the table
abbrev pub HasTable : TransitLists → TgwTableNo → Type 0
HasTable x t = t.0 < length x.routes
