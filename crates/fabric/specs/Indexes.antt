-- What the indexes of a network's tables and ACLs are.
use Rattle.std.specs.Prelude.{◌≡◌, List, Option, ℕ}
use Rattle.std.specs.List.{AllZip}
use Rattle.cut_laws.specs.Dividing.{DivideFirsts}
use Rattle.edge_gateways.specs.Edges.{AreEdgesOf, EdgeLists}
use Rattle.network_acls.specs.Tried.{SortsRows, TriedRows}
use Rattle.number_tables.specs.declared.tables.Entry.{Entry}
use Rattle.piece_table.specs.Pieces.{ArePieces, PieceLists}
use Rattle.route_tables.specs.Rows.{AreFewPieces, ChooseRoutes}
use Rattle.security_groups.specs.Dividing.{HasRuleCuts}
use Rattle.security_groups.specs.Index.{GroupLists, HasRulesOf}
use Rattle.transit_gateway.specs.Index.{IsTransitOf}
use Rattle.transit_gateway.specs.Lists.{TransitLists}
use Rattle.vpc_laws.specs.Types.{Access, Acl, Description, EniNo, NatNo, RouteTable, SubnetNo, VpcNo}
use Rattle.fabric.specs.Hosts.{AreHosts}
use Rattle.fabric.specs.Nats.{AreNats}
use Rattle.fabric.specs.Outside.{AreOutsideOf, OutsideLists}
use Rattle.fabric.specs.Sites.{accesses_in, ends_in, nat_subnets_in, subnets_in, vpcs_in}
use Rattle.fabric.specs.Targets.{targets_in}
use Rattle.vpc_model.specs.Cuts.{cuts_of_table}

-- the pieces of a table: what each address chooses, how many there are, and where they begin
pub record IsRouteIndex (d : Description) (t : RouteTable) (x : PieceLists) : Type 0 where
  pub chosen : ChooseRoutes d t.routes x
  pub few : AreFewPieces d t.routes x
  pub firsts : DivideFirsts x.firsts (cuts_of_table d t)
  pub pieces : ArePieces x

-- the sorted rows of an ACL
abbrev pub IsAclIndex : Acl → TriedRows → Type 0
IsAclIndex a x = SortsRows a.rows x

-- the indexes of all ACLs, groups and route tables, of the edges, of the transit gateways, NAT gateways by their interfaces, interfaces by
-- their assigned addresses, where interfaces, subnets and NAT gateways lie, the modes of subnets, which VPCs peerings join, what routes lead to,
-- and the tables of gateways and what stands behind firewall endpoints
pub record IndexLists : Type 0 where
  pub acls : List TriedRows
  pub groups : GroupLists
  pub routes : List PieceLists
  pub edges : EdgeLists
  pub transit : TransitLists
  pub nats : List (Entry NatNo)
  pub hosts : List (Entry EniNo)
  pub subnets : List SubnetNo
  pub vpcs : List VpcNo
  pub accesses : List Access
  pub nat_subnets : List SubnetNo
  pub ends : List (Option VpcNo × Option VpcNo)
  pub targets : List (List ℕ)
  pub outside : OutsideLists

-- they are those of the description
pub record AreIndexesOf (d : Description) (x : IndexLists) : Type 0 where
  pub acls : AllZip IsAclIndex d.acls x.acls
  pub groups : HasRulesOf d x.groups
  pub group_cuts : HasRuleCuts d x.groups
  pub routes : AllZip (IsRouteIndex d) d.tables x.routes
  pub edges : AreEdgesOf d x.edges
  pub transit : IsTransitOf d x.transit
  pub nats : AreNats d x.nats
  pub hosts : AreHosts d x.hosts
  pub subnets : x.subnets ≡ subnets_in d
  pub vpcs : x.vpcs ≡ vpcs_in d
  pub accesses : x.accesses ≡ accesses_in d
  pub nat_subnets : x.nat_subnets ≡ nat_subnets_in d
  pub ends : x.ends ≡ ends_in d
  pub targets : x.targets ≡ targets_in d
  pub outside : AreOutsideOf d x.outside
