-- What holds of accepted descriptions.
use Rattle.std.specs.Prelude.{Bool, ◌&&◌, ◌≡◌, ◌<◌, ◌≤◌, ◌==◌, ◌++◌, [], Contains, List, bytes_eq, count_by, false, length, true, ℕ}
use Rattle.std.specs.List.{AllByRecursion, IsDistinct}
use Rattle.vpc_laws.specs.Types.{Acl, Appliance, Attachment, Block, Description, EniNo, Far, FirewallEndpoint, Group, IgwNo, Interface, InternetGateway, NatGateway, NatNo, PeerNo, Permission, PrefixList, Route, RouteTable, Subnet, SubnetNo, Target, TgwTable, Vpc, VpcNo}
use Rattle.vpc_model.specs.declared.rows.FarKind.TheVariants as kinds
use Rattle.vpc_model.specs.declared.rows.NatLife.TheVariants as lives
use Rattle.vpc_model.specs.declared.rows.Reach.TheVariants as reaches
use Rattle.vpc_model.specs.declared.rows.Target.TheVariants as targets
use Rattle.vpc_model.specs.Accepted.{IsAccepted, duplicate_addresses, duplicate_ids, duplicate_publics, ids_by_list, is_interface_in, is_main_of, is_side, is_subnet_of, is_table_of, missing_references, private_addresses, public_addresses, same_address, serves_vpc, too_many_rows, two_acls, two_gateways, two_tables, without_acl, without_table}
use Rattle.vpc_model.specs.Appliances.{is_at_interface}
use Rattle.vpc_model.specs.Firewalls.{is_followed}
use Rattle.vpc_model.specs.Lookup.{acl_of, eni_no, has_address, has_group, has_igw, has_interface, has_list, has_nat, has_peering, has_subnet, has_vpc, igw_at, igw_no, interface_at, is_assigned, is_listed, nat_at, nat_no, peer_no, peering_at, subnet_at, subnet_no, subnet_of, table_at, table_of, vpc_at, vpc_no, vpc_of_interface, vpc_of_subnet}
use Rattle.vpc_model.specs.Sound.{is_acl, is_eni, is_igw, is_nat, is_peering, is_subnet, is_table, is_vpc}

-- ---- no refusals

-- nothing is wrong of any kind
pub record IsFaultless (d : Description) : Type 0 where
  pub ids : duplicate_ids d ≡ []
  pub references : missing_references d ≡ []
  pub addresses : duplicate_addresses d ≡ []
  pub publics : duplicate_publics d ≡ []
  pub tables : without_table d ≡ []
  pub acls : without_acl d ≡ []
  pub one_gateway : two_gateways d ≡ []
  pub one_table : two_tables d ≡ []
  pub one_acl : two_acls d ≡ []
  pub lengths : too_many_rows d ≡ []

abbrev pub AcceptedIsFaultless : Type 0
AcceptedIsFaultless = (d : Description) → IsAccepted d → IsFaultless d

-- ---- what rows name

-- the target of a route from this VPC is there: a NAT gateway, a peering or an interface in reach of the VPC
abbrev pub HasTarget : Description → List ℕ → Target → Type 0
HasTarget d vpc targets.Local = Unit {0}
HasTarget d vpc (targets.Internet id) = has_igw d id ≡ true
HasTarget d vpc (targets.Nat id) =
    let n = nat_at d (nat_no d id) in (has_nat d id ≡ true) × (serves_vpc d vpc n.life ≡ true)
HasTarget d vpc (targets.Transit id) = Unit {0}
HasTarget d vpc (targets.Peer id) =
    let x = peering_at d (peer_no d id) in (has_peering d id ≡ true) × (is_side vpc x.pair ≡ true)
HasTarget d vpc (targets.Interface id) =
    let e = interface_at d (eni_no d id) in (has_interface d id ≡ true)
    × (is_subnet_of d vpc e.subnet ≡ true)
HasTarget d vpc (targets.Other id) = Unit {0}

-- what rows name is there, all but the groups that rules name, the far side of peerings and transit
-- gateways, and firewall endpoints
pub record HasAllNamed (d : Description) : Type 0 where
  pub vpc_of_subnet : (s : Subnet) → Contains d.subnets s → has_vpc d s.vpc ≡ true
  pub subnet_of_interface : (e : Interface) → Contains d.interfaces e → has_subnet d e.subnet ≡ true
  pub group_of_interface : (e : Interface) (g : List ℕ) → Contains d.interfaces e → Contains e.groups g
      → has_group d g ≡ true
  pub vpc_of_table : (t : RouteTable) → Contains d.tables t → has_vpc d t.vpc ≡ true
  pub subnet_of_table : (t : RouteTable) (s : List ℕ) → Contains d.tables t → Contains t.subnets s
      → is_subnet_of d t.vpc s ≡ true
  pub list_of_route : (t : RouteTable) (r : Route) (l : List ℕ) → Contains d.tables t
      → Contains t.routes r → r.reach ≡ reaches.List l → has_list d l ≡ true
  pub target_of_route : (t : RouteTable) (r : Route) → Contains d.tables t → Contains t.routes r
      → r.blackhole ≡ false → HasTarget d t.vpc r.target
  pub subnet_of_acl : (a : Acl) (s : List ℕ) → Contains d.acls a → Contains a.subnets s
      → has_subnet d s ≡ true
  pub vpc_of_group : (g : Group) → Contains d.groups g → has_vpc d g.vpc ≡ true
  pub list_of_rule : (g : Group) (p : Permission) (l : List ℕ) → Contains d.groups g
      → Contains (g.inward ++ g.outward) p → Contains p.lists l → has_list d l ≡ true
  pub vpc_of_gateway : (g : InternetGateway) (v : List ℕ) → Contains d.igws g → Contains g.vpcs v
      → has_vpc d v ≡ true
  pub place_of_nat : (n : NatGateway) (subnet eni : List ℕ) (address : ℕ) → Contains d.nats n
      → n.life ≡ lives.Live subnet eni address → (has_subnet d subnet ≡ true)
      × (is_interface_in d subnet eni address ≡ true)
  pub subnet_of_attachment : (a : Attachment) (s : List ℕ) → Contains d.attachments a
      → has_vpc d a.vpc ≡ true → Contains a.subnets s → is_subnet_of d a.vpc s ≡ true
  pub interface_of_appliance : (a : Appliance) → Contains d.appliances a → is_at_interface a.at ≡ true
      → has_interface d a.id ≡ true
  pub subnet_of_firewall : (e : FirewallEndpoint) → Contains d.firewalls e → is_followed d e ≡ true
      → has_vpc d e.vpc ≡ true → is_subnet_of d e.vpc e.subnet ≡ true

abbrev pub AcceptedHasAllNamed : Type 0
AcceptedHasAllNamed = (d : Description) → IsAccepted d → HasAllNamed d

-- ---- what differs

-- both interfaces are in one VPC and have the address, in a delegated block or as their own
abbrev pub both_have : Description → ℕ → Interface → Interface → Bool
both_have d a e o = bytes_eq (vpc_of_interface d e) (vpc_of_interface d o) && (has_address e a && has_address o a)

-- no two rows of a list have one id, no address is assigned twice in a VPC, no two interfaces of a VPC have one address, no two
-- interfaces one public address; a VPC has
-- at most one internet gateway and one main table, a subnet at most one table and one ACL
pub record HasNothingTwice (d : Description) : Type 0 where
  pub ids : AllByRecursion (IsDistinct bytes_eq) (ids_by_list d)
  pub addresses : IsDistinct same_address (private_addresses d)
  pub hosts : (a : ℕ) → IsDistinct (both_have d a) d.interfaces
  pub publics : IsDistinct (λ a b. a == b) (public_addresses d)
  pub gateways : (v : Vpc) → Contains d.vpcs v → count_by (λ g. is_listed v.id g.vpcs) d.igws < 2
  pub main_tables : (v : Vpc) → Contains d.vpcs v → count_by (is_main_of v.id) d.tables < 2
  pub tables : (s : Subnet) → Contains d.subnets s → count_by (is_table_of s.id) d.tables < 2
  pub acls : (s : Subnet) → Contains d.subnets s → count_by (λ a. is_listed s.id a.subnets) d.acls < 2

abbrev pub AcceptedHasNothingTwice : Type 0
AcceptedHasNothingTwice = (d : Description) → IsAccepted d → HasNothingTwice d

-- ---- ids and numbers

-- an id that is there has a number in range, and the row with that number has the id
pub record IdsHaveNumbers (d : Description) : Type 0 where
  pub vpc : (id : List ℕ) → has_vpc d id ≡ true → let v = vpc_no d id in let row = vpc_at d v in
      (is_vpc d v ≡ true) × (row.id ≡ id)
  pub subnet : (id : List ℕ) → has_subnet d id ≡ true → let s = subnet_no d id in
      let row = subnet_at d s in (is_subnet d s ≡ true) × (row.id ≡ id)
  pub interface : (id : List ℕ) → has_interface d id ≡ true → let i = eni_no d id in
      let row = interface_at d i in (is_eni d i ≡ true) × (row.id ≡ id)
  pub gateway : (id : List ℕ) → has_igw d id ≡ true → let g = igw_no d id in let row = igw_at d g in
      (is_igw d g ≡ true) × (row.id ≡ id)
  pub nat : (id : List ℕ) → has_nat d id ≡ true → let n = nat_no d id in let row = nat_at d n in
      (is_nat d n ≡ true) × (row.id ≡ id)
  pub peering : (id : List ℕ) → has_peering d id ≡ true → let x = peer_no d id in
      let row = peering_at d x in (is_peering d x ≡ true) × (row.id ≡ id)

-- so it is in any description
abbrev pub IdsAreFound : Type 0
IdsAreFound = (d : Description) → IdsHaveNumbers d

-- the number of a row's id is the row's own
pub record NumbersAreOwn (d : Description) : Type 0 where
  pub vpc : (v : VpcNo) → is_vpc d v ≡ true → let row = vpc_at d v in vpc_no d row.id ≡ v
  pub subnet : (s : SubnetNo) → is_subnet d s ≡ true → let row = subnet_at d s in subnet_no d row.id ≡ s
  pub interface : (i : EniNo) → is_eni d i ≡ true → let row = interface_at d i in eni_no d row.id ≡ i
  pub gateway : (g : IgwNo) → is_igw d g ≡ true → let row = igw_at d g in igw_no d row.id ≡ g
  pub nat : (n : NatNo) → is_nat d n ≡ true → let row = nat_at d n in nat_no d row.id ≡ n
  pub peering : (x : PeerNo) → is_peering d x ≡ true → let row = peering_at d x in peer_no d row.id ≡ x

abbrev pub AcceptedNumbersAreOwn : Type 0
AcceptedNumbersAreOwn = (d : Description) → IsAccepted d → NumbersAreOwn d

-- what belongs to a subnet, an interface or a NAT gateway is described
pub record NumbersAreInRange (d : Description) : Type 0 where
  pub vpc_of_subnet : (s : SubnetNo) → is_subnet d s ≡ true → is_vpc d (vpc_of_subnet d s) ≡ true
  pub table_of_subnet : (s : SubnetNo) → is_subnet d s ≡ true → is_table d (table_of d s) ≡ true
  pub vpc_of_table : (s : SubnetNo) → is_subnet d s ≡ true → let t = table_at d (table_of d s) in
      let row = subnet_at d s in t.vpc ≡ row.vpc
  pub acl_of_subnet : (s : SubnetNo) → is_subnet d s ≡ true → is_acl d (acl_of d s) ≡ true
  pub subnet_of_interface : (i : EniNo) → is_eni d i ≡ true → is_subnet d (subnet_of d i) ≡ true

abbrev pub AcceptedNumbersAreInRange : Type 0
AcceptedNumbersAreInRange = (d : Description) → IsAccepted d → NumbersAreInRange d

-- the address of a live NAT gateway is one of its interface's, which is described and in the gateway's subnet
abbrev pub NatAddressesAreInterfaces : Type 0
NatAddressesAreInterfaces =
    (d : Description) (n : NatNo) (subnet eni : List ℕ) (address : ℕ) → IsAccepted d → is_nat d n ≡ true
    → let row = nat_at d n in row.life ≡ lives.Live subnet eni address
    → let i = eni_no d eni in let e = interface_at d i in
    (is_eni d i ≡ true) × (e.id ≡ eni) × (e.subnet ≡ subnet) × (is_assigned e address ≡ true)
    × (is_subnet d (subnet_no d subnet) ≡ true)

-- ---- the length of lists

-- a list that numbers of 32 bits can count
abbrev pub IsShort : {X : Type 0} → List X → Type 0
IsShort rows = length rows ≤ 100000

-- the lists of a description are short, and so are those inside their rows
pub record HasShortLists (d : Description) : Type 0 where
  pub vpcs : IsShort d.vpcs
  pub blocks_of_vpc : (v : Vpc) → Contains d.vpcs v → IsShort v.blocks
  pub subnets : IsShort d.subnets
  pub interfaces : IsShort d.interfaces
  pub addresses_of_interface : (e : Interface) → Contains d.interfaces e → IsShort e.addresses
  pub prefixes_of_interface : (e : Interface) → Contains d.interfaces e → IsShort e.prefixes
  pub groups_of_interface : (e : Interface) → Contains d.interfaces e → IsShort e.groups
  pub tables : IsShort d.tables
  pub subnets_of_table : (t : RouteTable) → Contains d.tables t → IsShort t.subnets
  pub gateways_of_table : (t : RouteTable) → Contains d.tables t → IsShort t.gateways
  pub routes_of_table : (t : RouteTable) → Contains d.tables t → IsShort t.routes
  pub lists : IsShort d.lists
  pub entries_of_list : (l : PrefixList) → Contains d.lists l → IsShort l.entries
  pub acls : IsShort d.acls
  pub subnets_of_acl : (a : Acl) → Contains d.acls a → IsShort a.subnets
  pub rows_of_acl : (a : Acl) → Contains d.acls a → IsShort a.rows
  pub groups : IsShort d.groups
  pub inward_of_group : (g : Group) → Contains d.groups g → IsShort g.inward
  pub outward_of_group : (g : Group) → Contains d.groups g → IsShort g.outward
  pub named_by_rule : (g : Group) (p : Permission) → Contains d.groups g → Contains (g.inward ++ g.outward) p
      → IsShort p.blocks × IsShort p.lists × IsShort p.groups
  pub igws : IsShort d.igws
  pub vpcs_of_gateway : (g : InternetGateway) → Contains d.igws g → IsShort g.vpcs
  pub nats : IsShort d.nats
  pub peerings : IsShort d.peerings
  pub attachments : IsShort d.attachments
  pub subnets_of_attachment : (a : Attachment) → Contains d.attachments a → IsShort a.subnets
  pub associations : IsShort d.associations
  pub tgw_tables : IsShort d.tgw_tables
  pub routes_of_tgw_table : (t : TgwTable) → Contains d.tgw_tables t → IsShort t.routes
  pub appliances : IsShort d.appliances
  pub fars : IsShort d.fars
  pub blocks_of_far : (f : Far) (requester accepter : List Block) → Contains d.fars f
      → f.kind ≡ kinds.Peering requester accepter → IsShort requester × IsShort accepter
  pub firewalls : IsShort d.firewalls

abbrev pub AcceptedHasShortLists : Type 0
AcceptedHasShortLists = (d : Description) → IsAccepted d → HasShortLists d
