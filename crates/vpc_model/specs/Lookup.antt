-- Rows by their numbers, and numbers by ids. A number counts the rows of a list, from 0. In an
-- accepted description every number that is asked for is in range and every id that is looked for is
-- described; elsewhere the row is an empty one, and the number is the list's length.
use Rattle.std.specs.List.{flat_map, list_any, position_or_len}
use Rattle.std.specs.Prelude.{◌==◌, ◌&&◌, ◌||◌, ◌∷◌, [], Bool, List, None, Option, Some, bytes_eq, false, find, length, option_map, position, slice_index_or, true, unwrap_or, ℕ}
use Rattle.vpc_model.specs.Types.{Acl, AclNo, AttNo, Attachment, Block, Description, EniNo, Far, FarNo, FirewallEndpoint, FirewallNo, Group, GroupNo, GroupScope, IgwNo, Interface, InternetGateway, NatGateway, NatNo, PeerNo, Peering, RouteTable, Subnet, SubnetNo, TableNo, TgwTable, TgwTableNo, Vpc, VpcNo}
use Rattle.vpc_model.specs.declared.rows.FarKind.TheVariants as fars
use Rattle.vpc_model.specs.declared.rows.InterfaceKind.TheVariants as kinds
use Rattle.vpc_model.specs.declared.rows.NatLife.TheVariants as lives
use Rattle.prefix_text.specs.Block.{holds}
use Rattle.vpc_model.specs.Choice.{or_else}

-- the id stands in the list
abbrev pub is_listed : List ℕ → List (List ℕ) → Bool
is_listed id ids = list_any (λ i. bytes_eq i id) ids

-- ---- rows by number

-- a VPC without blocks
abbrev pub no_vpc : Vpc
no_vpc = record { id = []; blocks = []; access = None }

-- a row of DescribeVpcs (EC2 API, DescribeVpcs)
abbrev pub vpc_at : Description → VpcNo → Vpc
vpc_at d v = slice_index_or d.vpcs v.0 no_vpc

-- a subnet of no VPC
abbrev pub no_subnet : Subnet
no_subnet = record { id = []; vpc = []; zone = []; access = None }

-- a row of DescribeSubnets (EC2 API, DescribeSubnets)
abbrev pub subnet_at : Description → SubnetNo → Subnet
subnet_at d s = slice_index_or d.subnets s.0 no_subnet

-- an interface that sends and receives nothing
abbrev pub no_interface : Interface
no_interface = record { id = []; subnet = []; primary = None; addresses = []; prefixes = []; groups = []; checked = true; idle = true; kind = kinds.Host }

-- a row of DescribeNetworkInterfaces (EC2 API, DescribeNetworkInterfaces)
abbrev pub interface_at : Description → EniNo → Interface
interface_at d i = slice_index_or d.interfaces i.0 no_interface

-- a table without routes
abbrev pub no_table : RouteTable
no_table = record { id = []; vpc = []; main = false; subnets = []; gateways = []; routes = [] }

-- a row of DescribeRouteTables (EC2 API, DescribeRouteTables)
abbrev pub table_at : Description → TableNo → RouteTable
table_at d t = slice_index_or d.tables t.0 no_table

-- an ACL without rows
abbrev pub no_acl : Acl
no_acl = record { id = []; subnets = []; rows = [] }

-- a row of DescribeNetworkAcls (EC2 API, DescribeNetworkAcls)
abbrev pub acl_at : Description → AclNo → Acl
acl_at d a = slice_index_or d.acls a.0 no_acl

-- a group without rules
abbrev pub no_group : Group
no_group = record { id = []; vpc = []; inward = []; outward = [] }

-- a row of DescribeSecurityGroups (EC2 API, DescribeSecurityGroups)
abbrev pub group_at : Description → GroupNo → Group
group_at d g = slice_index_or d.groups g.0 no_group

-- groups that count in their own VPCs alone
abbrev pub no_scope : GroupScope
no_scope = record { gateways = []; attachments = []; vpcs = [] }

-- an internet gateway that is attached to nothing
abbrev pub no_igw : InternetGateway
no_igw = record { id = []; vpcs = [] }

-- a row of DescribeInternetGateways (EC2 API, DescribeInternetGateways)
abbrev pub igw_at : Description → IgwNo → InternetGateway
igw_at d g = slice_index_or d.igws g.0 no_igw

-- a NAT gateway that is gone
abbrev pub no_nat : NatGateway
no_nat = record { id = []; life = lives.Gone }

-- a row of DescribeNatGateways (EC2 API, DescribeNatGateways)
abbrev pub nat_at : Description → NatNo → NatGateway
nat_at d n = slice_index_or d.nats n.0 no_nat

-- a peering that isn't active
abbrev pub no_peering : Peering
no_peering = record { id = []; pair = None }

-- a row of DescribeVpcPeeringConnections (EC2 API, DescribeVpcPeeringConnections)
abbrev pub peering_at : Description → PeerNo → Peering
peering_at d x = slice_index_or d.peerings x.0 no_peering

-- an attachment without subnets
abbrev pub no_attachment : Attachment
no_attachment = record { id = []; gateway = []; vpc = []; subnets = [] }

-- a row of DescribeTransitGatewayVpcAttachments (EC2 API, DescribeTransitGatewayVpcAttachments)
abbrev pub attachment_at : Description → AttNo → Attachment
attachment_at d a = slice_index_or d.attachments a.0 no_attachment

-- a transit gateway table without routes
abbrev pub no_tgw_table : TgwTable
no_tgw_table = record { id = []; routes = [] }

-- a row of SearchTransitGatewayRoutes, by table (EC2 API, SearchTransitGatewayRoutes)
abbrev pub tgw_table_at : Description → TgwTableNo → TgwTable
tgw_table_at d t = slice_index_or d.tgw_tables t.0 no_tgw_table

-- a gateway endpoint of no VPC
abbrev pub no_far : Far
no_far = record { id = []; kind = fars.Endpoint [] }

-- the row of a network that isn't described
abbrev pub far_at : Description → FarNo → Far
far_at d k = slice_index_or d.fars k.0 no_far

-- a firewall endpoint of no VPC
abbrev pub no_firewall : FirewallEndpoint
no_firewall = record { id = []; vpc = []; subnet = [] }

-- a row of DescribeVpcEndpoints that is a firewall endpoint (EC2 API, DescribeVpcEndpoints)
abbrev pub firewall_at : Description → FirewallNo → FirewallEndpoint
firewall_at d e = slice_index_or d.firewalls e.0 no_firewall

-- ---- numbers by id

-- the VPC with a VpcId
abbrev pub vpc_no : Description → List ℕ → VpcNo
vpc_no d id = record { 0 = position_or_len (λ v. bytes_eq v.id id) d.vpcs }

-- the VPC is described
abbrev pub has_vpc : Description → List ℕ → Bool
has_vpc d id = list_any (λ v. bytes_eq v.id id) d.vpcs

-- the subnet is described
abbrev pub has_subnet : Description → List ℕ → Bool
has_subnet d id = list_any (λ s. bytes_eq s.id id) d.subnets

-- the subnet with a SubnetId
abbrev pub subnet_no : Description → List ℕ → SubnetNo
subnet_no d id = record { 0 = position_or_len (λ s. bytes_eq s.id id) d.subnets }

-- the interface is described
abbrev pub has_interface : Description → List ℕ → Bool
has_interface d id = list_any (λ e. bytes_eq e.id id) d.interfaces

-- the interface with a NetworkInterfaceId
abbrev pub eni_no : Description → List ℕ → EniNo
eni_no d id = record { 0 = position_or_len (λ e. bytes_eq e.id id) d.interfaces }

-- the internet gateway is described
abbrev pub has_igw : Description → List ℕ → Bool
has_igw d id = list_any (λ g. bytes_eq g.id id) d.igws

-- the gateway with an InternetGatewayId
abbrev pub igw_no : Description → List ℕ → IgwNo
igw_no d id = record { 0 = position_or_len (λ g. bytes_eq g.id id) d.igws }

-- the NAT gateway is described
abbrev pub has_nat : Description → List ℕ → Bool
has_nat d id = list_any (λ n. bytes_eq n.id id) d.nats

-- the gateway with a NatGatewayId
abbrev pub nat_no : Description → List ℕ → NatNo
nat_no d id = record { 0 = position_or_len (λ n. bytes_eq n.id id) d.nats }

-- the peering is described
abbrev pub has_peering : Description → List ℕ → Bool
has_peering d id = list_any (λ x. bytes_eq x.id id) d.peerings

-- the peering with a VpcPeeringConnectionId
abbrev pub peer_no : Description → List ℕ → PeerNo
peer_no d id = record { 0 = position_or_len (λ x. bytes_eq x.id id) d.peerings }

-- the group is described
abbrev pub has_group : Description → List ℕ → Bool
has_group d id = list_any (λ g. bytes_eq g.id id) d.groups

-- the number of the described group with a GroupId
abbrev pub group_of_id : Description → List ℕ → Option GroupNo
group_of_id d id = option_map (λ k. record { 0 = k }) (position (λ g. bytes_eq g.id id) d.groups)

-- the number of the described attachment with a TransitGatewayAttachmentId
abbrev pub attachment_of_id : Description → List ℕ → Option AttNo
attachment_of_id d id = option_map (λ k. record { 0 = k }) (position (λ a. bytes_eq a.id id) d.attachments)

-- the number of the described table with a TransitGatewayRouteTableId
abbrev pub tgw_table_of_id : Description → List ℕ → Option TgwTableNo
tgw_table_of_id d id = option_map (λ k. record { 0 = k }) (position (λ t. bytes_eq t.id id) d.tgw_tables)

-- the prefix list is described
abbrev pub has_list : Description → List ℕ → Bool
has_list d id = list_any (λ l. bytes_eq l.id id) d.lists

-- the blocks of a prefix list (EC2 API, GetManagedPrefixListEntries)
abbrev pub entries_of : Description → List ℕ → List Block
entries_of d id = elim (find (λ l. bytes_eq l.id id) d.lists) [ None ↦ [] | Some l ↦ l.entries ]

-- ---- what belongs to what

-- the VPC of a subnet, by its VpcId (EC2 API, DescribeSubnets)
abbrev pub vpc_of_subnet : Description → SubnetNo → VpcNo
vpc_of_subnet d s = let row = subnet_at d s in vpc_no d row.vpc

-- the subnet of an interface, by its SubnetId (EC2 API, DescribeNetworkInterfaces)
abbrev pub subnet_of : Description → EniNo → SubnetNo
subnet_of d i = let e = interface_at d i in subnet_no d e.subnet

-- the VPC of an interface's subnet, by its id (EC2 API, DescribeSubnets)
abbrev pub vpc_of_interface : Description → Interface → List ℕ
vpc_of_interface d e = let s = subnet_at d (subnet_no d e.subnet) in s.vpc

-- the interface's subnet is in the VPC (EC2 API, DescribeSubnets)
abbrev pub is_in_vpc : Description → VpcNo → Interface → Bool
is_in_vpc d v e = let vpc = vpc_at d v in bytes_eq (vpc_of_interface d e) vpc.id

-- the private address is assigned to the interface itself (EC2 API, DescribeNetworkInterfaces)
abbrev pub is_assigned : Interface → ℕ → Bool
is_assigned e a = list_any (λ x. x.0 == a) e.addresses

-- the private address is one of the interface's: assigned to it, or in a block that is delegated to it (EC2 User Guide, "Prefix delegation")
abbrev pub has_address : Interface → ℕ → Bool
has_address e a = is_assigned e a || list_any (holds a) e.prefixes

-- a private address, and its public one if it has one (EC2 API, DescribeNetworkInterfaces)
abbrev pub both_addresses : ℕ × Option ℕ → List ℕ
both_addresses x = x.0 ∷ elim x.1 [ None ↦ [] | Some public ↦ public ∷ [] ]

-- the private and public addresses of all interfaces (EC2 API, DescribeNetworkInterfaces)
abbrev pub addresses_in : Description → List ℕ
addresses_in d = flat_map (λ e. flat_map both_addresses e.addresses) d.interfaces

-- the interface of a VPC with this private address (EC2 API, DescribeNetworkInterfaces)
abbrev pub host_of : Description → VpcNo → ℕ → Option EniNo
host_of d v a = option_map (λ k. record { 0 = k }) (position (λ e. has_address e a && is_in_vpc d v e) d.interfaces)

-- the table of a subnet: the one associated with it, else the main table of its VPC (VPC User Guide, "Route tables")
abbrev pub table_of : Description → SubnetNo → TableNo
table_of d s =
    let row = subnet_at d s in
    let associated = position (λ t. is_listed row.id t.subnets) d.tables in
    let main = position (λ t. t.main && bytes_eq t.vpc row.vpc) d.tables in
    record { 0 = unwrap_or (or_else associated main) (length d.tables) }

-- the ACL that is associated with a subnet (EC2 API, DescribeNetworkAcls)
abbrev pub acl_of : Description → SubnetNo → AclNo
acl_of d s = let row = subnet_at d s in record { 0 = position_or_len (λ a. is_listed row.id a.subnets) d.acls }

-- the internet gateway that is attached to a VPC (EC2 API, DescribeInternetGateways)
abbrev pub gateway_of : Description → VpcNo → Option IgwNo
gateway_of d v = let row = vpc_at d v in option_map (λ k. record { 0 = k }) (position (λ g. is_listed row.id g.vpcs) d.igws)

-- the number of the attached gateway of a VPC that has one
abbrev pub attached_gateway : Description → VpcNo → IgwNo
attached_gateway d v = unwrap_or (gateway_of d v) (record { 0 = length d.igws })
