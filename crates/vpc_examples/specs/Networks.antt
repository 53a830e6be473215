-- Small networks, in which worked walks are told.
use Rattle.std.specs.Prelude.{◌++◌, ◌∷◌, ◌+◌, ◌*◌, [], Bool, List, None, Option, Some, codes, false, length, true, ℕ}
use Rattle.vpc_laws.specs.Types.{Acl, AclRow, Appliance, ApplianceKind, Attachment, Block, Description, Group, Interface, Permission, Route, RouteTable, Subnet, Target, TgwRoute, Vpc}
use Rattle.vpc_model.specs.declared.rows.ApplianceAt.TheVariants as at
use Rattle.vpc_model.specs.declared.rows.InterfaceKind.TheVariants as kinds
use Rattle.vpc_model.specs.declared.rows.NatLife.TheVariants as lives
use Rattle.vpc_model.specs.declared.rows.Reach.TheVariants as reaches
use Rattle.vpc_model.specs.declared.rows.Target.TheVariants as targets
use Rattle.vpc_model.specs.Nat.{inward}
use Rattle.vpc_model.specs.Lookup.{no_scope, no_subnet, no_table, no_vpc}

-- ---- addresses, rules and routes

-- the address a.b.c.d
abbrev pub v4 : ℕ → ℕ → ℕ → ℕ → ℕ
v4 a b c d = ((a * 256 + b) * 256 + c) * 256 + d

-- the block first/length
abbrev pub block : ℕ → ℕ → Block
block first length = record { first = first; length = length }

abbrev pub anywhere : Block
anywhere = block 0 0

-- a rule for all packets
abbrev pub allow_all : Permission
allow_all = record { id = None; proto = None; q_from = 0; q_to = 65535; blocks = anywhere ∷ []; lists = []; groups = [] }

-- a rule for TCP to port 443, from a block
abbrev pub https_from : Block → Permission
https_from b = record { id = None; proto = Some 6; q_from = 443; q_to = 443; blocks = b ∷ []; lists = []; groups = [] }

-- a rule for TCP to port 443, from the members of a group
abbrev pub https_from_group : List ℕ → Permission
https_from_group g = record { id = None; proto = Some 6; q_from = 443; q_to = 443; blocks = []; lists = []; groups = g ∷ [] }

-- an ACL row that allows all protocols, or TCP to ports of a range
abbrev pub allow_row : ℕ → Bool → Block → AclRow
allow_row number outward b = record { number = number; outward = outward; allow = true; proto = None; q_from = 0; q_to = 65535; block = b }

abbrev pub tcp_row : ℕ → Bool → Bool → ℕ → ℕ → Block → AclRow
tcp_row number outward allow from to b = record { number = number; outward = outward; allow = allow; proto = Some 6; q_from = from; q_to = to; block = b }

-- row 100 allows everything both ways
abbrev pub open_rows : List AclRow
open_rows = allow_row 100 false anywhere ∷ allow_row 100 true anywhere ∷ []

abbrev pub acl : List ℕ → List (List ℕ) → List AclRow → Acl
acl id subnets rows = record { id = id; subnets = subnets; rows = rows }

abbrev pub group : List ℕ → List ℕ → List Permission → List Permission → Group
group id vpc inward outward = record { id = id; vpc = vpc; inward = inward; outward = outward }

-- an active route to a block
abbrev pub route : Block → Target → Route
route b target = record { reach = reaches.Block b; target = target; blackhole = false; propagated = false }

-- a route whose target is gone, a propagated one, and one to a prefix list
abbrev pub gone_route : Block → Target → Route
gone_route b target = record { reach = reaches.Block b; target = target; blackhole = true; propagated = false }

abbrev pub learnt_route : Block → Target → Route
learnt_route b target = record { reach = reaches.Block b; target = target; blackhole = false; propagated = true }

abbrev pub list_route : List ℕ → Target → Route
list_route id target = record { reach = reaches.List id; target = target; blackhole = false; propagated = false }

-- a main table, and one of a subnet
abbrev pub main_table : List ℕ → List ℕ → List Route → RouteTable
main_table id vpc routes = record no_table { id = id; vpc = vpc; main = true; routes = routes }

abbrev pub subnet_table : List ℕ → List ℕ → List ℕ → List Route → RouteTable
subnet_table id vpc subnet routes = record no_table { id = id; vpc = vpc; subnets = subnet ∷ []; routes = routes }

-- a table of a gateway
abbrev pub gateway_table : List ℕ → List ℕ → List ℕ → List Route → RouteTable
gateway_table id vpc gateway routes = record no_table { id = id; vpc = vpc; gateways = gateway ∷ []; routes = routes }

abbrev pub subnet_row : List ℕ → List ℕ → List ℕ → Subnet
subnet_row id vpc zone = record no_subnet { id = id; vpc = vpc; zone = zone }

-- an interface with one address, maybe a public one, and one group
abbrev pub host_with : List ℕ → List ℕ → ℕ → Option ℕ → List ℕ → Interface
host_with id subnet address public group = record { id = id; subnet = subnet; primary = Some address; addresses = (address, public) ∷ []; prefixes = []; groups = group ∷ []; checked = true; idle = false; kind = kinds.Host }

abbrev pub host : List ℕ → List ℕ → ℕ → List ℕ → Interface
host id subnet address group = host_with id subnet address None group

-- an appliance at an interface
abbrev pub appliance : List ℕ → ApplianceKind → Appliance
appliance id kind = record { id = id; at = at.Interface; kind = kind }

-- nothing but VPCs and subnets
abbrev pub bare : List Vpc → List Subnet → Description
bare vpcs subnets = record {
  vpcs = vpcs;
  subnets = subnets;
  interfaces = [];
  tables = [];
  lists = [];
  acls = [];
  groups = [];
  igws = [];
  nats = [];
  peerings = [];
  attachments = [];
  associations = [];
  tgw_tables = [];
  appliances = [];
  fars = [];
  firewalls = [];
  scope = no_scope;
}

-- ---- tables alone

-- everything to an internet gateway, 10.0.0.0/16 to the VPC itself, and the route to 10.0.2.0/24 is gone
abbrev pub three_routes : List Route
three_routes = route anywhere (targets.Internet (codes "igw-1")) ∷ route (block (v4 10 0 0 0) 16) targets.Local ∷ gone_route (block (v4 10 0 2 0) 24) (targets.Nat (codes "nat-1")) ∷ []

-- three routes to 10.0.0.0/8: a propagated one, one by a prefix list with an entry of that length, and one to the block
abbrev pub equal_routes : List Route
equal_routes = learnt_route (block (v4 10 0 0 0) 8) (targets.Other (codes "vgw-1")) ∷ list_route (codes "pl-1") (targets.Other (codes "vgw-2")) ∷ route (block (v4 10 0 0 0) 8) (targets.Other (codes "vgw-3")) ∷ []

-- the local route to 10.0.0.0/16, and a propagated one to a part of it
abbrev pub learnt_routes : List Route
learnt_routes = route (block (v4 10 0 0 0) 16) targets.Local ∷ learnt_route (block (v4 10 0 2 0) 24) (targets.Other (codes "vgw-1")) ∷ []

-- a prefix list with 10.0.0.0/8 and 10.0.1.0/24
abbrev pub one_list : Description
one_list = record (bare [] []) { lists = record { id = codes "pl-1"; entries = block (v4 10 0 0 0) 8 ∷ block (v4 10 0 1 0) 24 ∷ [] } ∷ [] }

-- rows out of order: 200 denies HTTPS from anywhere, 100 allows it from 10.0.0.0/8, and so, with another verdict, does a second row 100
abbrev pub rows_out_of_order : List AclRow
rows_out_of_order = tcp_row 200 false false 443 443 anywhere ∷ tcp_row 100 false true 443 443 (block (v4 10 0 0 0) 8) ∷ tcp_row 100 false false 443 443 (block (v4 10 0 0 0) 8) ∷ []

-- ---- one VPC

abbrev pub vpc_1 : Vpc
vpc_1 = record no_vpc { id = codes "vpc-1"; blocks = block (v4 10 0 0 0) 16 ∷ [] }

abbrev pub local_1 : Route
local_1 = route (block (v4 10 0 0 0) 16) targets.Local

-- one subnet with two hosts, 10.0.1.10 and 10.0.1.20
abbrev pub one_subnet : Description
one_subnet = record (bare (vpc_1 ∷ []) (subnet_row (codes "subnet-a") (codes "vpc-1") (codes "z") ∷ [])) {
  interfaces = host (codes "eni-a") (codes "subnet-a") (v4 10 0 1 10) (codes "sg-a") ∷ host (codes "eni-b") (codes "subnet-a") (v4 10 0 1 20) (codes "sg-b") ∷ [];
  tables = main_table (codes "rtb-1") (codes "vpc-1") (local_1 ∷ []) ∷ [];
  groups = group (codes "sg-a") (codes "vpc-1") [] (allow_all ∷ []) ∷ group (codes "sg-b") (codes "vpc-1") (https_from (block (v4 10 0 1 0) 24) ∷ []) [] ∷ [];
}

-- the ACL of both subnets
abbrev pub acl_1 : Acl
acl_1 = acl (codes "acl-1") (codes "subnet-a" ∷ codes "subnet-b" ∷ []) open_rows

-- two subnets with a host each, 10.0.1.10 and 10.0.2.20; the second's group lets in HTTPS from the members of the first's
abbrev pub two_subnets : List Acl → Description
two_subnets acls = record (bare (vpc_1 ∷ []) (subnet_row (codes "subnet-a") (codes "vpc-1") (codes "us-east-1a") ∷ subnet_row (codes "subnet-b") (codes "vpc-1") (codes "us-east-1a") ∷ [])) {
  interfaces = host (codes "eni-a") (codes "subnet-a") (v4 10 0 1 10) (codes "sg-a") ∷ host (codes "eni-b") (codes "subnet-b") (v4 10 0 2 20) (codes "sg-b") ∷ [];
  tables = main_table (codes "rtb-1") (codes "vpc-1") (local_1 ∷ []) ∷ [];
  acls = acls;
  groups = group (codes "sg-a") (codes "vpc-1") [] (allow_all ∷ []) ∷ group (codes "sg-b") (codes "vpc-1") (https_from_group (codes "sg-a") ∷ []) [] ∷ [];
}

-- two subnets with a host each, where subnet-b has an ACL of its own that lets out TCP to the high half of the ports alone
abbrev pub high_ports_only : Description
high_ports_only = two_subnets (acl (codes "acl-1") (codes "subnet-a" ∷ []) open_rows
    ∷ acl (codes "acl-b") (codes "subnet-b" ∷ []) (allow_row 100 false anywhere ∷ tcp_row 100 true true 32768 65535 anywhere ∷ []) ∷ [])

-- two subnets with a host each, where the hosts have the public addresses 203.0.113.10 and 203.0.113.20, and the second's group lets in HTTPS by this rule
abbrev pub public_hosts : Permission → Description
public_hosts p = record (two_subnets (acl_1 ∷ [])) {
  interfaces = host_with (codes "eni-a") (codes "subnet-a") (v4 10 0 1 10) (Some (v4 203 0 113 10)) (codes "sg-a") ∷ host_with (codes "eni-b") (codes "subnet-b") (v4 10 0 2 20) (Some (v4 203 0 113 20)) (codes "sg-b") ∷ [];
  tables = main_table (codes "rtb-1") (codes "vpc-1") (local_1 ∷ route anywhere (targets.Internet (codes "igw-1")) ∷ []) ∷ [];
  groups = group (codes "sg-a") (codes "vpc-1") [] (allow_all ∷ []) ∷ group (codes "sg-b") (codes "vpc-1") (p ∷ []) [] ∷ [];
  igws = record { id = codes "igw-1"; vpcs = codes "vpc-1" ∷ [] } ∷ [];
}

-- the interface of the NAT gateway, 10.0.3.5 with the public address 203.0.113.5
abbrev pub eni_n : Interface
eni_n = record { id = codes "eni-n"; subnet = codes "subnet-n"; primary = Some (v4 10 0 3 5); addresses = (v4 10 0 3 5, Some (v4 203 0 113 5)) ∷ []; prefixes = []; groups = []; checked = false; idle = false; kind = kinds.Gateway }

-- two hosts in subnets of their own behind a NAT gateway in a third subnet; acl-n, with these rows, is that one's
abbrev pub behind_nat : List AclRow → Description
behind_nat rows = record (bare (vpc_1 ∷ []) (subnet_row (codes "subnet-a") (codes "vpc-1") (codes "us-east-1a") ∷ subnet_row (codes "subnet-b") (codes "vpc-1") (codes "us-east-1a") ∷ subnet_row (codes "subnet-n") (codes "vpc-1") (codes "us-east-1a") ∷ [])) {
  interfaces = host (codes "eni-a") (codes "subnet-a") (v4 10 0 1 10) (codes "sg-a") ∷ host (codes "eni-b") (codes "subnet-b") (v4 10 0 2 20) (codes "sg-b") ∷ eni_n ∷ [];
  tables = main_table (codes "rtb-1") (codes "vpc-1") (local_1 ∷ route anywhere (targets.Nat (codes "nat-1")) ∷ [])
      ∷ subnet_table (codes "rtb-n") (codes "vpc-1") (codes "subnet-n") (local_1 ∷ route anywhere (targets.Internet (codes "igw-1")) ∷ []) ∷ [];
  acls = acl_1 ∷ acl (codes "acl-n") (codes "subnet-n" ∷ []) rows ∷ [];
  groups = group (codes "sg-a") (codes "vpc-1") [] (allow_all ∷ []) ∷ group (codes "sg-b") (codes "vpc-1") (https_from_group (codes "sg-a") ∷ []) (allow_all ∷ []) ∷ [];
  igws = record { id = codes "igw-1"; vpcs = codes "vpc-1" ∷ [] } ∷ [];
  nats = record { id = codes "nat-1"; life = lives.Live (codes "subnet-n") (codes "eni-n") (v4 10 0 3 5) } ∷ [];
}

-- rows that let into the NAT gateway's subnet what comes from the VPC, and TCP to ports 1024 to 2047
abbrev pub low_ports_in : List AclRow
low_ports_in = allow_row 90 false (block (v4 10 0 0 0) 16) ∷ tcp_row 100 false true 1024 2047 anywhere ∷ allow_row 100 true anywhere ∷ []

-- ---- several VPCs: each site c has the VPC 10.n.0.0/16, a host 10.n.1.10, a group and an ACL that allow everything

abbrev pub site_vpc : List ℕ → ℕ → Vpc
site_vpc c n = record no_vpc { id = codes "vpc-" ++ c; blocks = block (v4 10 n 0 0) 16 ∷ [] }

abbrev pub site_subnet : List ℕ → Subnet
site_subnet c = subnet_row (codes "subnet-" ++ c) (codes "vpc-" ++ c) (codes "z")

abbrev pub site_host : List ℕ → ℕ → Interface
site_host c n = host (codes "eni-" ++ c) (codes "subnet-" ++ c) (v4 10 n 1 10) (codes "sg-" ++ c)

-- the main table, with the local route and others
abbrev pub site_table : List ℕ → ℕ → List Route → RouteTable
site_table c n routes = main_table (codes "rtb-" ++ c) (codes "vpc-" ++ c) (route (block (v4 10 n 0 0) 16) targets.Local ∷ routes)

abbrev pub site_acl : List ℕ → List (List ℕ) → Acl
site_acl c subnets = acl (codes "acl-" ++ c) subnets open_rows

abbrev pub site_group : List ℕ → Group
site_group c = group (codes "sg-" ++ c) (codes "vpc-" ++ c) (allow_all ∷ []) (allow_all ∷ [])

-- three VPCs, the second of which is peered with both others; the first sends what is for the third to the second
abbrev pub peered : Description
peered = record (bare (site_vpc (codes "a") 1 ∷ site_vpc (codes "b") 2 ∷ site_vpc (codes "c") 3 ∷ []) (site_subnet (codes "a") ∷ site_subnet (codes "b") ∷ site_subnet (codes "c") ∷ [])) {
  interfaces = site_host (codes "a") 1 ∷ site_host (codes "b") 2 ∷ site_host (codes "c") 3 ∷ [];
  tables = site_table (codes "a") 1 (route (block (v4 10 3 0 0) 16) (targets.Peer (codes "pcx-ab")) ∷ []) ∷ site_table (codes "b") 2 [] ∷ site_table (codes "c") 3 [] ∷ [];
  acls = site_acl (codes "a") (codes "subnet-a" ∷ []) ∷ site_acl (codes "b") (codes "subnet-b" ∷ []) ∷ site_acl (codes "c") (codes "subnet-c" ∷ []) ∷ [];
  groups = site_group (codes "a") ∷ site_group (codes "b") ∷ site_group (codes "c") ∷ [];
  peerings = record { id = codes "pcx-ab"; pair = Some (codes "vpc-a", codes "vpc-b") } ∷ record { id = codes "pcx-bc"; pair = Some (codes "vpc-b", codes "vpc-c") } ∷ [];
}

-- the attachment of a site to the transit gateway, through a subnet of its own
abbrev pub site_attachment : List ℕ → Attachment
site_attachment c = record { id = codes "att-" ++ c; gateway = codes "tgw-1"; vpc = codes "vpc-" ++ c; subnets = (codes "subnet-t" ++ c) ∷ [] }

abbrev pub transit_subnet : List ℕ → Subnet
transit_subnet c = subnet_row (codes "subnet-t" ++ c) (codes "vpc-" ++ c) (codes "z")

-- two VPCs at a transit gateway, which routes what comes from each by a table of its own; a second host of the second is 10.2.9.10
abbrev pub attached : List TgwRoute → List TgwRoute → Description
attached from_a from_b = record (bare (site_vpc (codes "a") 1 ∷ site_vpc (codes "b") 2 ∷ []) (site_subnet (codes "a") ∷ site_subnet (codes "b") ∷ transit_subnet (codes "a") ∷ transit_subnet (codes "b") ∷ [])) {
  interfaces = site_host (codes "a") 1 ∷ site_host (codes "b") 2 ∷ host (codes "eni-b9") (codes "subnet-b") (v4 10 2 9 10) (codes "sg-b") ∷ [];
  tables = site_table (codes "a") 1 (route anywhere (targets.Transit (codes "tgw-1")) ∷ []) ∷ site_table (codes "b") 2 (route anywhere (targets.Transit (codes "tgw-1")) ∷ []) ∷ [];
  acls = site_acl (codes "a") (codes "subnet-a" ∷ codes "subnet-ta" ∷ []) ∷ site_acl (codes "b") (codes "subnet-b" ∷ codes "subnet-tb" ∷ []) ∷ [];
  groups = site_group (codes "a") ∷ site_group (codes "b") ∷ [];
  attachments = site_attachment (codes "a") ∷ site_attachment (codes "b") ∷ [];
  associations = record { attachment = codes "att-a"; table = codes "tgw-rtb-a" } ∷ record { attachment = codes "att-b"; table = codes "tgw-rtb-b" } ∷ [];
  tgw_tables = record { id = codes "tgw-rtb-a"; routes = from_a } ∷ record { id = codes "tgw-rtb-b"; routes = from_b } ∷ [];
}

-- a network of two sites with a third host, 10.1.3.10, in the subnet by which the first VPC is attached, whose ACL lets everything out and nothing in
abbrev pub host_at_attachment : Description → Description
host_at_attachment d = record d {
  interfaces = d.interfaces ++ host (codes "eni-t") (codes "subnet-ta") (v4 10 1 3 10) (codes "sg-a") ∷ [];
}

abbrev pub shut_attachment : Description → Description
shut_attachment d = record d {
  acls = site_acl (codes "a") (codes "subnet-a" ∷ []) ∷ site_acl (codes "b") (codes "subnet-b" ∷ codes "subnet-tb" ∷ []) ∷ acl (codes "acl-t") (codes "subnet-ta" ∷ []) (allow_row 100 true anywhere ∷ []) ∷ [];
}

abbrev pub tgw_route : Block → List ℕ → Bool → TgwRoute
tgw_route b attachment propagated = record { block = b; blackhole = false; propagated = propagated; attachment = Some attachment }

abbrev pub tgw_blackhole : Block → TgwRoute
tgw_blackhole b = record { block = b; blackhole = true; propagated = false; attachment = None }

-- each VPC is reached from the other, but for 10.2.9.0/24
abbrev pub transit : Description
transit = attached
    (tgw_route (block (v4 10 2 0 0) 16) (codes "att-b") true ∷ tgw_blackhole (block (v4 10 2 9 0) 24) ∷ [])
    (tgw_route (block (v4 10 1 0 0) 16) (codes "att-a") true ∷ [])

-- each table sends everything to the other VPC
abbrev pub transit_loop : Description
transit_loop = attached (tgw_route anywhere (codes "att-b") false ∷ []) (tgw_route anywhere (codes "att-a") false ∷ [])
