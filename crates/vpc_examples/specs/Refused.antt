-- Descriptions that make a network, and descriptions that don't, each with its first cause.
use Rattle.std.specs.Prelude.{◌∷◌, ◌≡◌, [], List, None, Option, Some, codes, slice_index_or, true, ℕ}
use Rattle.vpc_laws.specs.Types.{Acl, AclRow, Appliance, Association, Attachment, Block, Description, Far, FirewallEndpoint, Group, Interface, InternetGateway, ListName, NatGateway, NatLife, Peering, Permission, PrefixList, Refusal, Route, RouteTable, Subnet, Target, TgwRoute, TgwTable, Vpc}
use Rattle.vpc_model.specs.declared.rows.ApplianceAt.TheVariants as at
use Rattle.vpc_model.specs.declared.rows.ApplianceKind.TheVariants as forwards
use Rattle.vpc_model.specs.declared.rows.FarKind.TheVariants as kinds
use Rattle.vpc_model.specs.declared.rows.NatLife.TheVariants as lives
use Rattle.vpc_model.specs.declared.refusals.ListName.TheVariants as named
use Rattle.vpc_model.specs.declared.refusals.Refusal.TheVariants as refusals
use Rattle.vpc_model.specs.declared.rows.Target.TheVariants as targets
use Rattle.vpc_examples.specs.Middleboxes.{with_appliance}
use Rattle.vpc_examples.specs.Networks.{acl, acl_1, allow_all, anywhere, appliance, bare, behind_nat, block, gone_route, group, https_from_group, list_route, low_ports_in, main_table, open_rows, peered, route, site_host, site_table, subnet_table, transit, two_subnets, v4, vpc_1}
use Rattle.vpc_examples.specs.Stops.{eni_a, eni_b, plain_vpc, with_hosts, with_route}
use Rattle.vpc_model.specs.Accepted.{is_long, list_of_far, refusal_of, too_many_rows}
use Rattle.vpc_model.specs.Lookup.{no_far, no_table}

-- the first cause against a description, if there is one
abbrev pub cause : Description → Option Refusal
cause d = refusal_of d

abbrev pub missing : List ℕ → List ℕ → Option Refusal
missing row id = Some (refusals.MissingReference row id)

-- the networks of the other examples
abbrev pub NetworksAreAccepted : Type 0
NetworksAreAccepted =
    (cause plain_vpc ≡ None)
    × ((cause (behind_nat low_ports_in) ≡ None)
    × ((cause peered ≡ None)
    × ((cause transit ≡ None)
    × ((cause (with_appliance (forwards.Service 443 443) []) ≡ None)
    × (cause (bare [] []) ≡ None)))))

-- ---- ids and addresses that stand twice

abbrev pub TellsDuplicates : Type 0
TellsDuplicates =
    (cause (record plain_vpc { vpcs = vpc_1 ∷ vpc_1 ∷ [] }) ≡ Some (refusals.DuplicateId (codes "vpc-1")))
    × ((cause (record plain_vpc { acls = acl_1 ∷ acl_1 ∷ [] }) ≡ Some (refusals.DuplicateId (codes "acl-1")))
    × ((cause (record transit { associations = record { attachment = codes "att-a"; table = codes "tgw-rtb-a" } ∷ record { attachment = codes "att-a"; table = codes "tgw-rtb-b" } ∷ [] }) ≡ Some (refusals.DuplicateId (codes "att-a")))
    × ((cause (with_hosts eni_a (record eni_b { addresses = (v4 10 0 1 10, None) ∷ [] })) ≡ Some (refusals.DuplicateAddress (codes "vpc-1") (v4 10 0 1 10)))
    × ((cause (with_hosts eni_a (record eni_b { addresses = (v4 10 0 2 20, None) ∷ (v4 10 0 2 20, None) ∷ [] })) ≡ Some (refusals.DuplicateAddress (codes "vpc-1") (v4 10 0 2 20)))
    × ((cause (record peered { interfaces = site_host (codes "a") 1 ∷ record (site_host (codes "b") 2) { addresses = (v4 10 1 1 10, None) ∷ [] } ∷ [] }) ≡ None)
    × (cause (record peered { interfaces = record (site_host (codes "a") 1) { addresses = (v4 10 1 1 10, Some (v4 203 0 113 1)) ∷ [] } ∷ record (site_host (codes "b") 2) { addresses = (v4 10 2 1 10, Some (v4 203 0 113 1)) ∷ [] } ∷ [] })
    ≡ Some (refusals.DuplicatePublic (v4 203 0 113 1))))))))

-- a block that is delegated to an interface must not meet an address or a block of an earlier one of the VPC, nor an address a block
-- of one: the least address that both have is told. An interface's own blocks may meet its addresses, and one another
abbrev pub TellsSharedBlocks : Type 0
TellsSharedBlocks =
    let twice : ℕ → Option Refusal = λ a. Some (refusals.DuplicateAddress (codes "vpc-1") a) in
    let with_blocks : Interface → List Block → Interface = λ e blocks. record e { prefixes = blocks } in
    (cause (with_hosts (with_blocks eni_a (block (v4 10 0 2 16) 28 ∷ [])) eni_b) ≡ twice (v4 10 0 2 20))
    × ((cause (with_hosts (with_blocks eni_a (block (v4 10 0 1 64) 28 ∷ [])) (with_blocks eni_b (block (v4 10 0 1 72) 29 ∷ []))) ≡ twice (v4 10 0 1 72))
    × ((cause (with_hosts (with_blocks eni_a (block (v4 10 0 1 64) 30 ∷ block (v4 10 0 1 96) 28 ∷ [])) (with_blocks eni_b (block (v4 10 0 1 0) 24 ∷ []))) ≡ twice (v4 10 0 1 10))
    × ((cause (with_hosts (with_blocks eni_a (block (v4 10 0 1 0) 24 ∷ block (v4 10 0 1 64) 28 ∷ [])) eni_b) ≡ None)
    × ((cause (with_hosts eni_a (record (with_blocks eni_b (block (v4 10 0 1 0) 28 ∷ [])) { addresses = (v4 10 0 2 20, None) ∷ (v4 10 0 2 20, None) ∷ [] })) ≡ twice (v4 10 0 2 20))
    × (cause (record peered { interfaces = with_blocks (site_host (codes "a") 1) (block (v4 10 2 1 0) 28 ∷ []) ∷ site_host (codes "b") 2 ∷ [] }) ≡ None)))))

-- ---- references

-- of a subnet, an interface, an ACL, a group, an internet gateway and an appliance
abbrev pub TellsMissingRows : Type 0
TellsMissingRows =
    (cause (record plain_vpc { vpcs = [] }) ≡ missing (codes "subnet-a") (codes "vpc-1"))
    × ((cause (with_hosts (record eni_a { subnet = codes "subnet-x" }) eni_b) ≡ missing (codes "eni-a") (codes "subnet-x"))
    × ((cause (with_hosts (record eni_a { groups = codes "sg-a" ∷ codes "sg-x" ∷ [] }) eni_b) ≡ missing (codes "eni-a") (codes "sg-x"))
    × ((cause (two_subnets (acl (codes "acl-1") (codes "subnet-a" ∷ codes "subnet-x" ∷ []) open_rows ∷ [])) ≡ missing (codes "acl-1") (codes "subnet-x"))
    × ((cause (record plain_vpc { groups = group (codes "sg-a") (codes "vpc-1") [] [] ∷ group (codes "sg-b") (codes "vpc-x") [] [] ∷ [] }) ≡ missing (codes "sg-b") (codes "vpc-x"))
    × ((cause (record plain_vpc { groups = group (codes "sg-a") (codes "vpc-1") [] (record allow_all { lists = codes "pl-x" ∷ [] } ∷ []) ∷ group (codes "sg-b") (codes "vpc-1") [] [] ∷ [] }) ≡ missing (codes "sg-a") (codes "pl-x"))
    × ((cause (record plain_vpc { groups = group (codes "sg-a") (codes "vpc-1") [] (https_from_group (codes "sg-x") ∷ []) ∷ group (codes "sg-b") (codes "vpc-1") [] [] ∷ [] }) ≡ None)
    × ((cause (record plain_vpc { igws = record { id = codes "igw-1"; vpcs = codes "vpc-x" ∷ [] } ∷ [] }) ≡ missing (codes "igw-1") (codes "vpc-x"))
    × (cause (record plain_vpc { appliances = appliance (codes "eni-x") forwards.All ∷ [] }) ≡ missing (codes "eni-x") (codes "eni-x")))))))))

-- of a route table: its VPC, its subnets, its prefix lists, and the targets of routes, unless they are gone
abbrev pub TellsMissingTargets : Type 0
TellsMissingTargets =
    let missing_target : Route → List ℕ → Type 0 = (λ r id. cause (with_route r) ≡ missing (codes "rtb-1") id) in
    (cause (record plain_vpc { tables = record (main_table (codes "rtb-1") (codes "vpc-1") []) { vpc = codes "vpc-x" } ∷ [] }) ≡ missing (codes "rtb-1") (codes "vpc-x"))
    × ((cause (record peered { tables = subnet_table (codes "rtb-a") (codes "vpc-a") (codes "subnet-b") [] ∷ [] }) ≡ missing (codes "rtb-a") (codes "subnet-b"))
    × (missing_target (list_route (codes "pl-x") targets.Local) (codes "pl-x")
    × (missing_target (route anywhere (targets.Internet (codes "igw-x"))) (codes "igw-x")
    × (missing_target (route anywhere (targets.Nat (codes "nat-x"))) (codes "nat-x")
    × (missing_target (route anywhere (targets.Peer (codes "pcx-x"))) (codes "pcx-x")
    × (missing_target (route anywhere (targets.Interface (codes "eni-x"))) (codes "eni-x")
    × ((cause (with_route (route anywhere (targets.Transit (codes "tgw-x")))) ≡ None)
    × ((cause (with_route (route anywhere (targets.Other (codes "vpce-x")))) ≡ None)
    × (cause (with_route (gone_route anywhere (targets.Nat (codes "nat-x")))) ≡ None)))))))))

-- a route's NAT gateway, peering or interface is one of the table's VPC; one that isn't live or active may be anywhere
abbrev pub TellsForeignTargets : Type 0
TellsForeignTargets =
    let from_c : Target → Description → Description = (λ target d. record d { tables = site_table (codes "a") 1 [] ∷ site_table (codes "b") 2 [] ∷ site_table (codes "c") 3 (route anywhere target ∷ []) ∷ [] }) in
    let nat_in : NatLife → Description = (λ life. record peered { nats = record { id = codes "nat-1"; life = life } ∷ [] }) in
    (cause (from_c (targets.Peer (codes "pcx-ab")) peered) ≡ missing (codes "rtb-c") (codes "pcx-ab"))
    × ((cause (from_c (targets.Peer (codes "pcx-off")) (record peered { peerings = record { id = codes "pcx-off"; pair = None } ∷ [] })) ≡ None)
    × ((cause (from_c (targets.Interface (codes "eni-a")) peered) ≡ missing (codes "rtb-c") (codes "eni-a"))
    × ((cause (from_c (targets.Nat (codes "nat-1")) (nat_in (lives.Live (codes "subnet-a") (codes "eni-a") (v4 10 1 1 10)))) ≡ missing (codes "rtb-c") (codes "nat-1"))
    × ((cause (from_c (targets.Nat (codes "nat-1")) (nat_in (lives.Live (codes "subnet-x") (codes "eni-a") (v4 10 1 1 10)))) ≡ missing (codes "rtb-c") (codes "nat-1"))
    × (cause (from_c (targets.Nat (codes "nat-1")) (nat_in lives.Gone)) ≡ None)))))

-- a route names its peering from either side, the VPC that asked for it or the one that accepted it, and a NAT gateway that isn't
-- followed from any VPC
abbrev pub AcceptsTargetsOfEitherSide : Type 0
AcceptsTargetsOfEitherSide =
    let to_pcx : List Route = route anywhere (targets.Peer (codes "pcx-1")) ∷ [] in
    let over : List ℕ → List ℕ → Option Refusal = (λ asked accepted. cause (record peered { tables = site_table (codes "a") 1 to_pcx ∷ site_table (codes "b") 2 to_pcx ∷ site_table (codes "c") 3 [] ∷ []; peerings = record { id = codes "pcx-1"; pair = Some (asked, accepted) } ∷ [] })) in
    let to_nat : List Route = route anywhere (targets.Nat (codes "nat-1")) ∷ [] in
    (over (codes "vpc-a") (codes "vpc-b") ≡ None)
    × ((over (codes "vpc-b") (codes "vpc-a") ≡ None)
    × ((over (codes "vpc-a") (codes "vpc-c") ≡ missing (codes "rtb-b") (codes "pcx-1"))
    × ((over (codes "vpc-c") (codes "vpc-b") ≡ missing (codes "rtb-a") (codes "pcx-1"))
    × (cause (record peered { tables = site_table (codes "a") 1 to_nat ∷ site_table (codes "b") 2 [] ∷ site_table (codes "c") 3 to_nat ∷ []; nats = record { id = codes "nat-1"; life = lives.Unmodelled } ∷ [] }) ≡ None))))

-- of a live NAT gateway, and of an attachment whose VPC is described
abbrev pub TellsMissingAtGateways : Type 0
TellsMissingAtGateways =
    let with_nat : NatLife → Description = (λ life. record peered { nats = record { id = codes "nat-1"; life = life } ∷ [] }) in
    let with_attachment : List ℕ → List ℕ → Description = (λ vpc_id subnet_id. record peered { attachments = record { id = codes "att-1"; gateway = codes "tgw-1"; vpc = vpc_id; subnets = subnet_id ∷ [] } ∷ [] }) in
    (cause (with_nat (lives.Live (codes "subnet-x") (codes "eni-a") (v4 10 1 1 10))) ≡ missing (codes "nat-1") (codes "subnet-x"))
    × ((cause (with_nat (lives.Live (codes "subnet-a") (codes "eni-x") (v4 10 1 1 10))) ≡ missing (codes "nat-1") (codes "eni-x"))
    × ((cause (with_nat (lives.Live (codes "subnet-b") (codes "eni-a") (v4 10 1 1 10))) ≡ missing (codes "nat-1") (codes "eni-a"))
    × ((cause (with_nat (lives.Live (codes "subnet-a") (codes "eni-a") (v4 10 1 1 11))) ≡ missing (codes "nat-1") (codes "eni-a"))
    × ((cause (with_nat (lives.Live (codes "subnet-a") (codes "eni-a") (v4 10 1 1 10))) ≡ None)
    × ((cause (with_attachment (codes "vpc-a") (codes "subnet-b")) ≡ missing (codes "att-1") (codes "subnet-b"))
    × ((cause (with_attachment (codes "vpc-a") (codes "subnet-a")) ≡ None)
    × (cause (with_attachment (codes "vpc-x") (codes "subnet-x")) ≡ None)))))))

-- of a firewall endpoint that is followed, and whose VPC is described, where its subnet isn't in that VPC; what stands behind an
-- endpoint that isn't there names nothing
abbrev pub TellsMissingAtFirewalls : Type 0
TellsMissingAtFirewalls =
    let behind : List ℕ → Appliance = (λ id. record { id = id; at = at.Endpoint; kind = forwards.All }) in
    let followed : List ℕ → List ℕ → Option Refusal = (λ vpc_id subnet_id. cause (record peered { appliances = behind (codes "vpce-fw") ∷ []; firewalls = record { id = codes "vpce-fw"; vpc = vpc_id; subnet = subnet_id } ∷ [] })) in
    (followed (codes "vpc-a") (codes "subnet-a") ≡ None)
    × ((followed (codes "vpc-a") (codes "subnet-b") ≡ missing (codes "vpce-fw") (codes "subnet-b"))
    × ((followed (codes "vpc-a") (codes "subnet-x") ≡ missing (codes "vpce-fw") (codes "subnet-x"))
    × ((followed (codes "vpc-x") (codes "subnet-x") ≡ None)
    × ((cause (record peered { firewalls = record { id = codes "vpce-fw"; vpc = codes "vpc-a"; subnet = codes "subnet-x" } ∷ [] }) ≡ None)
    × (cause (record peered { appliances = behind (codes "vpce-x") ∷ [] }) ≡ None)))))

-- ---- tables, ACLs and gateways

abbrev pub TellsTablesAndAcls : Type 0
TellsTablesAndAcls =
    let tables : List RouteTable → Option Refusal = (λ ts. cause (record plain_vpc { tables = ts })) in
    let main : RouteTable = main_table (codes "rtb-1") (codes "vpc-1") [] in
    let of_a : RouteTable = subnet_table (codes "rtb-a") (codes "vpc-1") (codes "subnet-a") [] in
    (tables (of_a ∷ []) ≡ Some (refusals.NoRouteTable (codes "subnet-b")))
    × ((tables (main ∷ of_a ∷ []) ≡ None)
    × ((tables (main ∷ record main { id = codes "rtb-2" } ∷ of_a ∷ record of_a { id = codes "rtb-c" } ∷ []) ≡ Some (refusals.TwoTables (codes "vpc-1")))
    × ((tables (main ∷ of_a ∷ record of_a { id = codes "rtb-c" } ∷ []) ≡ Some (refusals.TwoTables (codes "subnet-a")))
    × ((tables (main ∷ record of_a { subnets = codes "subnet-a" ∷ codes "subnet-a" ∷ [] } ∷ []) ≡ None)
    × ((cause (two_subnets (acl (codes "acl-1") (codes "subnet-b" ∷ []) [] ∷ [])) ≡ Some (refusals.NoAcl (codes "subnet-a")))
    × ((cause (two_subnets (acl_1 ∷ record acl_1 { id = codes "acl-2" } ∷ [])) ≡ Some (refusals.TwoAcls (codes "subnet-a")))
    × ((cause (record plain_vpc { igws = record { id = codes "igw-1"; vpcs = codes "vpc-1" ∷ codes "vpc-1" ∷ [] } ∷ [] }) ≡ None)
    × (cause (record plain_vpc { igws = record { id = codes "igw-1"; vpcs = codes "vpc-1" ∷ [] } ∷ record { id = codes "igw-2"; vpcs = codes "vpc-1" ∷ [] } ∷ [] }) ≡ Some (refusals.TwoInternetGateways (codes "vpc-1"))))))))))

-- of several causes the first in this order is told: ids, references, private addresses, public ones, tables, ACLs, gateways, two
-- tables, two ACLs
abbrev pub TellsFirstCause : Type 0
TellsFirstCause =
    let twice : Interface = record eni_b { addresses = (v4 10 0 1 10, Some (v4 203 0 113 1)) ∷ (v4 10 0 2 20, Some (v4 203 0 113 1)) ∷ [] } in
    let worst : Description = record (with_hosts (record eni_a { groups = codes "sg-x" ∷ [] }) twice) { vpcs = vpc_1 ∷ vpc_1 ∷ []; tables = []; acls = [] } in
    (cause worst ≡ Some (refusals.DuplicateId (codes "vpc-1")))
    × ((cause (record worst { vpcs = vpc_1 ∷ [] }) ≡ missing (codes "eni-a") (codes "sg-x"))
    × ((cause (record worst { vpcs = vpc_1 ∷ []; interfaces = eni_a ∷ twice ∷ [] }) ≡ Some (refusals.DuplicateAddress (codes "vpc-1") (v4 10 0 1 10)))
    × ((cause (record worst { vpcs = vpc_1 ∷ []; interfaces = twice ∷ [] }) ≡ Some (refusals.DuplicatePublic (v4 203 0 113 1)))
    × ((cause (record worst { vpcs = vpc_1 ∷ []; interfaces = [] }) ≡ Some (refusals.NoRouteTable (codes "subnet-a")))
    × (cause (record plain_vpc { acls = []; igws = record { id = codes "igw-1"; vpcs = codes "vpc-1" ∷ [] } ∷ record { id = codes "igw-2"; vpcs = codes "vpc-1" ∷ [] } ∷ [] }) ≡ Some (refusals.NoAcl (codes "subnet-a")))))))

-- ---- lists that are too long

-- nothing is described but what is added here
abbrev pub nothing : Description
nothing = bare [] []

abbrev pub too_many : Description → ListName → Type 0
too_many d name = too_many_rows d ≡ refusals.TooManyRows name ∷ []

abbrev pub subnet_table_of : List (List ℕ) → List Route → RouteTable
subnet_table_of subnets routes = record no_table { id = codes "rtb-1"; vpc = codes "vpc-1"; subnets = subnets; routes = routes }

-- a group with one rule, of its second direction
abbrev pub with_rule : Permission → Description
with_rule p = record nothing { groups = group (codes "sg-1") (codes "vpc-1") [] (p ∷ []) ∷ [] }

-- a list with more than 100,000 rows is told by its own name
pub record LongListsAreNamed : Type 0 where
  pub vpcs : (xs : List Vpc) → is_long xs ≡ true → too_many (record nothing { vpcs = xs }) named.Vpcs
  pub subnets : (xs : List Subnet) → is_long xs ≡ true → too_many (record nothing { subnets = xs }) named.Subnets
  pub interfaces : (xs : List Interface) → is_long xs ≡ true → too_many (record nothing { interfaces = xs }) named.NetworkInterfaces
  pub tables : (xs : List RouteTable) → is_long xs ≡ true → too_many (record nothing { tables = xs }) named.RouteTables
  pub lists : (xs : List PrefixList) → is_long xs ≡ true → too_many (record nothing { lists = xs }) named.PrefixLists
  pub acls : (xs : List Acl) → is_long xs ≡ true → too_many (record nothing { acls = xs }) named.NetworkAcls
  pub groups : (xs : List Group) → is_long xs ≡ true → too_many (record nothing { groups = xs }) named.SecurityGroups
  pub igws : (xs : List InternetGateway) → is_long xs ≡ true → too_many (record nothing { igws = xs }) named.InternetGateways
  pub nats : (xs : List NatGateway) → is_long xs ≡ true → too_many (record nothing { nats = xs }) named.NatGateways
  pub peerings : (xs : List Peering) → is_long xs ≡ true → too_many (record nothing { peerings = xs }) named.VpcPeeringConnections
  pub attachments : (xs : List Attachment) → is_long xs ≡ true → too_many (record nothing { attachments = xs }) named.TransitGatewayVpcAttachments
  pub associations : (xs : List Association) → is_long xs ≡ true → too_many (record nothing { associations = xs }) named.TransitGatewayAttachments
  pub tgw_tables : (xs : List TgwTable) → is_long xs ≡ true → too_many (record nothing { tgw_tables = xs }) named.TransitGatewayRoutes
  pub appliances : (xs : List Appliance) → is_long xs ≡ true → too_many (record nothing { appliances = xs }) named.Appliances
  pub firewalls : (xs : List FirewallEndpoint) → is_long xs ≡ true → too_many (record nothing { firewalls = xs }) named.VpcEndpoints

-- so is a list with one row, in which a list is too long
pub record LongRowsAreNamed : Type 0 where
  pub blocks : (xs : List Block) → is_long xs ≡ true → too_many (record nothing { vpcs = record vpc_1 { blocks = xs } ∷ [] }) named.Vpcs
  pub addresses : (xs : List (ℕ × Option ℕ)) → is_long xs ≡ true → too_many (record nothing { interfaces = record eni_a { addresses = xs } ∷ [] }) named.NetworkInterfaces
  pub delegated : (xs : List Block) → is_long xs ≡ true → too_many (record nothing { interfaces = record eni_a { prefixes = xs } ∷ [] }) named.NetworkInterfaces
  pub member_of : (xs : List (List ℕ)) → is_long xs ≡ true → too_many (record nothing { interfaces = record eni_a { groups = xs } ∷ [] }) named.NetworkInterfaces
  pub table_subnets : (xs : List (List ℕ)) → is_long xs ≡ true → too_many (record nothing { tables = subnet_table_of xs [] ∷ [] }) named.RouteTables
  pub table_gateways : (xs : List (List ℕ)) → is_long xs ≡ true → too_many (record nothing { tables = record (subnet_table_of [] []) { gateways = xs } ∷ [] }) named.RouteTables
  pub routes : (xs : List Route) → is_long xs ≡ true → too_many (record nothing { tables = subnet_table_of [] xs ∷ [] }) named.RouteTables
  pub entries : (xs : List Block) → is_long xs ≡ true → too_many (record nothing { lists = record { id = codes "pl-1"; entries = xs } ∷ [] }) named.PrefixLists
  pub acl_subnets : (xs : List (List ℕ)) → is_long xs ≡ true → too_many (record nothing { acls = acl (codes "acl-1") xs [] ∷ [] }) named.NetworkAcls
  pub acl_rows : (xs : List AclRow) → is_long xs ≡ true → too_many (record nothing { acls = acl (codes "acl-1") [] xs ∷ [] }) named.NetworkAcls
  pub inward : (xs : List Permission) → is_long xs ≡ true → too_many (record nothing { groups = group (codes "sg-1") (codes "vpc-1") xs [] ∷ [] }) named.SecurityGroups
  pub outward : (xs : List Permission) → is_long xs ≡ true → too_many (record nothing { groups = group (codes "sg-1") (codes "vpc-1") [] xs ∷ [] }) named.SecurityGroups
  pub rule_blocks : (xs : List Block) → is_long xs ≡ true → too_many (with_rule (record allow_all { blocks = xs })) named.SecurityGroups
  pub rule_lists : (xs : List (List ℕ)) → is_long xs ≡ true → too_many (with_rule (record allow_all { lists = xs })) named.SecurityGroups
  pub rule_groups : (xs : List (List ℕ)) → is_long xs ≡ true → too_many (with_rule (record allow_all { groups = xs })) named.SecurityGroups
  pub gateway_vpcs : (xs : List (List ℕ)) → is_long xs ≡ true → too_many (record nothing { igws = record { id = codes "igw-1"; vpcs = xs } ∷ [] }) named.InternetGateways
  pub attached : (xs : List (List ℕ)) → is_long xs ≡ true → too_many (record nothing { attachments = record { id = codes "att-1"; gateway = codes "tgw-1"; vpc = codes "vpc-1"; subnets = xs } ∷ [] }) named.TransitGatewayVpcAttachments
  pub tgw_routes : (xs : List TgwRoute) → is_long xs ≡ true → too_many (record nothing { tgw_tables = record { id = codes "tgw-rtb-1"; routes = xs } ∷ [] }) named.TransitGatewayRoutes
  pub requester : (xs : List Block) → is_long xs ≡ true → too_many (record nothing { fars = record { id = codes "pcx-1"; kind = kinds.Peering xs [] } ∷ [] }) named.VpcPeeringConnections
  pub accepter : (xs : List Block) → is_long xs ≡ true → too_many (record nothing { fars = record { id = codes "pcx-1"; kind = kinds.Peering [] xs } ∷ [] }) named.VpcPeeringConnections

-- networks that aren't described come from several lists: the one that tells the 100,001st of them is named first
abbrev pub LongFarsAreNamed : Type 0
LongFarsAreNamed =
    (xs : List Far) → is_long xs ≡ true
    → let row = slice_index_or xs 100000 no_far in
    (rest : List Refusal) × (too_many_rows (record nothing { fars = xs }) ≡ refusals.TooManyRows (list_of_far row.kind) ∷ rest)
