-- The network of a number: a valid description that grows with it. For each k from 1 to the number it has a VPC with one host,
-- and a transit gateway joins the VPCs.
use Rattle.std.specs.List.{range_with_len}
use Rattle.std.specs.Prelude.{◌*◌, ◌++◌, ◌+◌, ◌∷◌, ◌≤◌, [], Bool, List, None, Option, Some, codes, decimal, false, map, true, ℕ}
use Rattle.prefix_text.specs.Addr.{addr_at}
use Rattle.prefix_text.specs.Block.{Block, block_of}
use Rattle.vpc_model.specs.Accepted.{IsAccepted}
use Rattle.made_network.specs.Types.{Acl, AclRow, Association, Attachment, Description, Group, Interface, Permission, Route, RouteTable, Subnet, TgwRoute, TgwTable, Vpc}
use Rattle.vpc_model.specs.declared.rows.InterfaceKind.TheVariants as kinds
use Rattle.vpc_model.specs.declared.rows.Reach.TheVariants as reaches
use Rattle.vpc_model.specs.declared.rows.Target.TheVariants as targets
use Rattle.vpc_model.specs.Lookup.{no_scope, no_subnet, no_vpc}

-- ---- ids, addresses and blocks

-- the id with this number: its kind, a hyphen, the number in decimal
abbrev pub numbered : List ℕ → ℕ → List ℕ
numbered kind k = kind ++ (codes "-" ++ decimal k)

abbrev pub vpc_id : ℕ → List ℕ
vpc_id k = numbered (codes "vpc") k

abbrev pub subnet_id : ℕ → List ℕ
subnet_id k = numbered (codes "subnet") k

abbrev pub interface_id : ℕ → List ℕ
interface_id k = numbered (codes "eni") k

abbrev pub group_id : ℕ → List ℕ
group_id k = numbered (codes "sg") k

abbrev pub acl_id : ℕ → List ℕ
acl_id k = numbered (codes "acl") k

abbrev pub table_id : ℕ → List ℕ
table_id k = numbered (codes "rtb") k

abbrev pub attachment_id : ℕ → List ℕ
attachment_id k = numbered (codes "att") k

-- the transit gateway and its one route table
abbrev pub gateway_id : List ℕ
gateway_id = codes "tgw-1"

abbrev pub gateway_table_id : List ℕ
gateway_table_id = codes "tgw-rtb-1"

-- 10.k.1.10, the host's address
abbrev pub host_address : ℕ → ℕ
host_address k = addr_at 10 k 1 10

-- 10.k.0.0/16, the VPC's block
abbrev pub vpc_block : ℕ → Block
vpc_block k = block_of (addr_at 10 k 0 0) 16

-- 10.0.0.0/8, which has the blocks of all VPCs in it
abbrev pub all_vpcs : Block
all_vpcs = block_of (addr_at 10 0 0 0) 8

-- 0.0.0.0/0
abbrev pub anywhere : Block
anywhere = block_of 0 0

-- ---- the rows with a number

abbrev pub made_vpc : ℕ → Vpc
made_vpc k = record no_vpc { id = vpc_id k; blocks = vpc_block k ∷ [] }

abbrev pub made_subnet : ℕ → Subnet
made_subnet k = record no_subnet { id = subnet_id k; vpc = vpc_id k; zone = codes "z" }

abbrev pub made_interface : ℕ → Interface
made_interface k = record {
  id = interface_id k;
  subnet = subnet_id k;
  primary = Some (host_address k);
  addresses = (host_address k, None) ∷ [];
  prefixes = [];
  groups = group_id k ∷ [];
  checked = true;
  idle = false;
  kind = kinds.Host;
}

-- the VPC's own block, and all else that begins with 10 to the transit gateway
abbrev pub local_route : ℕ → Route
local_route k = record { reach = reaches.Block (vpc_block k); target = targets.Local; blackhole = false; propagated = false }

abbrev pub route_to_gateway : Route
route_to_gateway = record { reach = reaches.Block all_vpcs; target = targets.Transit gateway_id; blackhole = false; propagated = false }

-- the VPC's main table
abbrev pub made_table : ℕ → RouteTable
made_table k = record { id = table_id k; vpc = vpc_id k; main = true; subnets = []; gateways = []; routes = local_route k ∷ route_to_gateway ∷ [] }

-- row 100 allows everything in one direction
abbrev pub open_row : Bool → AclRow
open_row outward = record { number = 100; outward = outward; allow = true; proto = None; q_from = 0; q_to = 65535; block = anywhere }

abbrev pub made_acl : ℕ → Acl
made_acl k = record { id = acl_id k; subnets = subnet_id k ∷ []; rows = open_row false ∷ open_row true ∷ [] }

-- a rule for a protocol and a range of q, from or to anywhere
abbrev pub open_rule : Option ℕ → ℕ → ℕ → Permission
open_rule proto from to = record { id = None; proto = proto; q_from = from; q_to = to; blocks = anywhere ∷ []; lists = []; groups = [] }

-- one port of TCP, whose last two digits in decimal are those of k
abbrev pub port_rule : ℕ → ℕ → Permission
port_rule k j = let port = 100 * j + k in open_rule (Some 6) port port

-- a hundred ports in, all packets out
abbrev pub made_group : ℕ → Group
made_group k = record { id = group_id k; vpc = vpc_id k; inward = map (port_rule k) (range_with_len 0 100); outward = open_rule None 0 65535 ∷ [] }

abbrev pub made_attachment : ℕ → Attachment
made_attachment k = record { id = attachment_id k; gateway = gateway_id; vpc = vpc_id k; subnets = subnet_id k ∷ [] }

abbrev pub made_association : ℕ → Association
made_association k = record { attachment = attachment_id k; table = gateway_table_id }

-- the route to a VPC that its attachment propagates into the gateway's table
abbrev pub learnt_route : ℕ → TgwRoute
learnt_route k = record { block = vpc_block k; blackhole = false; propagated = true; attachment = Some (attachment_id k) }

-- ---- the network

-- what there is for each number from 1 to n
abbrev pub for_each : {X : Type 0} → (ℕ → X) → ℕ → List X
for_each row n = map row (range_with_len 1 n)

abbrev pub made_gateway_table : ℕ → TgwTable
made_gateway_table n = record { id = gateway_table_id; routes = for_each learnt_route n }

abbrev pub made : ℕ → Description
made n = record {
  vpcs = for_each made_vpc n;
  subnets = for_each made_subnet n;
  interfaces = for_each made_interface n;
  tables = for_each made_table n;
  lists = [];
  acls = for_each made_acl n;
  groups = for_each made_group n;
  igws = [];
  nats = [];
  peerings = [];
  attachments = for_each made_attachment n;
  associations = for_each made_association n;
  tgw_tables = made_gateway_table n ∷ [];
  appliances = [];
  fars = [];
  firewalls = [];
  scope = no_scope;
}

-- each of them is a network
abbrev pub MadeIsAccepted : Type 0
MadeIsAccepted = (n : ℕ) → 1 ≤ n → n ≤ 50 → IsAccepted (made n)
