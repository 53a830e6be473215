-- Which descriptions make a network (EC2 API: the ids that Describe calls print name one another). What is
-- asked, and in which order, is this project's profile.
use Rattle.std.specs.List.{filter_map, flat_map, list_any}
use Rattle.std.specs.Prelude.{◌==◌, ◌&&◌, ◌||◌, ◌++◌, ◌∷◌, ◌≡◌, [], if◌then◌else◌, Bool, List, None, Option, Some, bytes_eq, count_by, drop, false, filter, length, map, nat_le, nat_lt, not, true, ℕ}
use Rattle.vpc_model.specs.Types.{Acl, Appliance, Attachment, Description, FarKind, FirewallEndpoint, Group, Interface, InternetGateway, ListName, NatLife, Permission, Reach, Refusal, Route, RouteTable, Subnet, Target}
use Rattle.vpc_model.specs.declared.rows.FarKind.TheVariants as fars
use Rattle.vpc_model.specs.declared.rows.NatLife.TheVariants as lives
use Rattle.vpc_model.specs.declared.refusals.ListName.TheVariants as named
use Rattle.vpc_model.specs.declared.rows.Reach.TheVariants as reaches
use Rattle.vpc_model.specs.declared.refusals.Refusal.TheVariants as refusals
use Rattle.vpc_model.specs.declared.rows.Target.TheVariants as targets
use Rattle.prefix_text.specs.Block.{last_of}
use Rattle.vpc_model.specs.Appliances.{is_at_interface}
use Rattle.vpc_model.specs.Firewalls.{is_followed}
use Rattle.vpc_model.specs.Lookup.{eni_no, has_group, has_igw, has_interface, has_list, has_nat, has_peering, has_subnet, has_vpc, interface_at, is_assigned, is_listed, nat_at, nat_no, peer_no, peering_at, subnet_at, subnet_no, vpc_of_interface}

-- ---- what stands twice

-- the values of the second list that stand before themselves, in it or in the first
abbrev pub repeats_after : {X : Type 0} → (X → X → Bool) → List X → List X → List X
repeats_after same earlier [] = []
repeats_after same earlier (x ∷ xs) =
    let later = repeats_after same (earlier ++ x ∷ []) xs in
    if list_any (same x) earlier then x ∷ later else later

-- the values that stand for the second time or later
abbrev pub repeats : {X : Type 0} → (X → X → Bool) → List X → List X
repeats same xs = repeats_after same [] xs

-- the ids of each list
abbrev pub ids_by_list : Description → List (List (List ℕ))
ids_by_list d =
    map (λ v. v.id) d.vpcs
    ∷ map (λ s. s.id) d.subnets
    ∷ map (λ e. e.id) d.interfaces
    ∷ map (λ t. t.id) d.tables
    ∷ map (λ l. l.id) d.lists
    ∷ map (λ a. a.id) d.acls
    ∷ map (λ g. g.id) d.groups
    ∷ map (λ g. g.id) d.igws
    ∷ map (λ n. n.id) d.nats
    ∷ map (λ x. x.id) d.peerings
    ∷ map (λ a. a.id) d.attachments
    ∷ map (λ x. x.attachment) d.associations
    ∷ map (λ t. t.id) d.tgw_tables
    ∷ map (λ a. a.id) d.appliances
    ∷ []

-- an id stands twice in a list of ids
abbrev pub duplicates_in : List (List ℕ) → List Refusal
duplicates_in ids = map refusals.DuplicateId (repeats bytes_eq ids)

-- two rows of one list have one id
abbrev pub duplicate_ids : Description → List Refusal
duplicate_ids d = flat_map duplicates_in (ids_by_list d)

-- ---- references

-- a row names another, which is there or not
abbrev pub wanted : Bool → List ℕ → List ℕ → List Refusal
wanted is_there from to = if is_there then [] else refusals.MissingReference from to ∷ []

-- the subnet is described, and in the VPC
abbrev pub is_subnet_of : Description → List ℕ → List ℕ → Bool
is_subnet_of d vpc id = has_subnet d id && (let s = subnet_at d (subnet_no d id) in bytes_eq s.vpc vpc)

-- a subnet's VPC
abbrev pub missing_of_subnet : Description → Subnet → List Refusal
missing_of_subnet d s = wanted (has_vpc d s.vpc) s.id s.vpc

-- an interface's subnet, and its groups
abbrev pub missing_of_interface : Description → Interface → List Refusal
missing_of_interface d e = wanted (has_subnet d e.subnet) e.id e.subnet ++ flat_map (λ g. wanted (has_group d g) e.id g) e.groups

-- the prefix list of a route
abbrev pub missing_of_reach : Description → RouteTable → Reach → List Refusal
missing_of_reach d t (reaches.Block b) = []
missing_of_reach d t (reaches.List id) = wanted (has_list d id) t.id id

-- a live NAT gateway is in a subnet of the VPC
abbrev pub serves_vpc : Description → List ℕ → NatLife → Bool
serves_vpc d vpc lives.Gone = true
serves_vpc d vpc lives.Unmodelled = true
serves_vpc d vpc (lives.Live subnet eni address) = is_subnet_of d vpc subnet

-- an active peering has the VPC on a side
abbrev pub is_side : List ℕ → Option (List ℕ × List ℕ) → Bool
is_side vpc None = true
is_side vpc (Some pair) = bytes_eq pair.0 vpc || bytes_eq pair.1 vpc

-- the target of a route: an internet gateway; a NAT gateway, a peering or an interface that the table's VPC has
abbrev pub missing_of_target : Description → RouteTable → Target → List Refusal
missing_of_target d t targets.Local = []
missing_of_target d t (targets.Internet id) = wanted (has_igw d id) t.id id
missing_of_target d t (targets.Nat id) = let n = nat_at d (nat_no d id) in wanted (has_nat d id && serves_vpc d t.vpc n.life) t.id id
missing_of_target d t (targets.Transit id) = []
missing_of_target d t (targets.Peer id) = let x = peering_at d (peer_no d id) in wanted (has_peering d id && is_side t.vpc x.pair) t.id id
missing_of_target d t (targets.Interface id) = let e = interface_at d (eni_no d id) in wanted (has_interface d id && is_subnet_of d t.vpc e.subnet) t.id id
missing_of_target d t (targets.Other id) = []

-- a route's prefix list, and its target unless that is gone
abbrev pub missing_of_route : Description → RouteTable → Route → List Refusal
missing_of_route d t r = missing_of_reach d t r.reach ++ (if r.blackhole then [] else missing_of_target d t r.target)

-- a table's VPC, its subnets, which are in that VPC, and its routes
abbrev pub missing_of_table : Description → RouteTable → List Refusal
missing_of_table d t =
    wanted (has_vpc d t.vpc) t.id t.vpc
    ++ flat_map (λ s. wanted (is_subnet_of d t.vpc s) t.id s) t.subnets
    ++ flat_map (missing_of_route d t) t.routes

-- an ACL's subnets
abbrev pub missing_of_acl : Description → Acl → List Refusal
missing_of_acl d a = flat_map (λ s. wanted (has_subnet d s) a.id s) a.subnets

-- a group's VPC, and the prefix lists of its rules; the groups that rules name may be missing
abbrev pub missing_of_group : Description → Group → List Refusal
missing_of_group d g =
    wanted (has_vpc d g.vpc) g.id g.vpc
    ++ flat_map (λ p. flat_map (λ l. wanted (has_list d l) g.id l) p.lists) (g.inward ++ g.outward)

-- an internet gateway's VPCs
abbrev pub missing_of_igw : Description → InternetGateway → List Refusal
missing_of_igw d g = flat_map (λ v. wanted (has_vpc d v) g.id v) g.vpcs

-- the interface is described, in the subnet, and has the address
abbrev pub is_interface_in : Description → List ℕ → List ℕ → ℕ → Bool
is_interface_in d subnet id address =
    let e = interface_at d (eni_no d id) in
    has_interface d id && (bytes_eq e.subnet subnet && is_assigned e address)

-- a live NAT gateway's subnet, and its interface there, which has its address
abbrev pub missing_of_life : Description → List ℕ → NatLife → List Refusal
missing_of_life d id lives.Gone = []
missing_of_life d id lives.Unmodelled = []
missing_of_life d id (lives.Live subnet eni address) = wanted (has_subnet d subnet) id subnet ++ wanted (is_interface_in d subnet eni address) id eni

-- where an attachment's VPC is described: its subnets, which are in that VPC
abbrev pub missing_of_attachment : Description → Attachment → List Refusal
missing_of_attachment d a = if has_vpc d a.vpc then flat_map (λ s. wanted (is_subnet_of d a.vpc s) a.id s) a.subnets else []

-- an appliance's interface; a firewall endpoint may be missing
abbrev pub missing_of_appliance : Description → Appliance → List Refusal
missing_of_appliance d a = if is_at_interface a.at then wanted (has_interface d a.id) a.id a.id else []

-- where a firewall endpoint is followed and its VPC described: its subnet, which is in that VPC
abbrev pub missing_of_firewall : Description → FirewallEndpoint → List Refusal
missing_of_firewall d e = if is_followed d e && has_vpc d e.vpc then wanted (is_subnet_of d e.vpc e.subnet) e.id e.subnet else []

-- what rows name and isn't there
abbrev pub missing_references : Description → List Refusal
missing_references d =
    flat_map (missing_of_subnet d) d.subnets
    ++ flat_map (missing_of_interface d) d.interfaces
    ++ flat_map (missing_of_table d) d.tables
    ++ flat_map (missing_of_acl d) d.acls
    ++ flat_map (missing_of_group d) d.groups
    ++ flat_map (missing_of_igw d) d.igws
    ++ flat_map (λ n. missing_of_life d n.id n.life) d.nats
    ++ flat_map (missing_of_attachment d) d.attachments
    ++ flat_map (missing_of_appliance d) d.appliances
    ++ flat_map (missing_of_firewall d) d.firewalls

-- ---- addresses

-- the private addresses that are assigned to all interfaces, each with the id of its VPC
abbrev pub private_addresses : Description → List (List ℕ × ℕ)
private_addresses d = flat_map (λ e. map (λ x. (vpc_of_interface d e, x.0)) e.addresses) d.interfaces

-- one address of one VPC
abbrev pub same_address : List ℕ × ℕ → List ℕ × ℕ → Bool
same_address a b = bytes_eq a.0 b.0 && (a.1 == b.1)

-- what an interface claims in the VPC with this id: the addresses from the first to the last
pub record Claim : Type 0 where
  pub vpc : List ℕ
  pub first : ℕ
  pub last : ℕ

-- its addresses, each alone
abbrev pub address_claims : Description → Interface → List Claim
address_claims d e = map (λ x. record { vpc = vpc_of_interface d e; first = x.0; last = x.0 }) e.addresses

-- the blocks that are delegated to it
abbrev pub prefix_claims : Description → Interface → List Claim
prefix_claims d e = map (λ b. record { vpc = vpc_of_interface d e; first = b.first; last = last_of b }) e.prefixes

-- all that it claims
abbrev pub claims_of : Description → Interface → List Claim
claims_of d e = address_claims d e ++ prefix_claims d e

-- both claims have an address of one VPC
abbrev pub meets : Claim → Claim → Bool
meets a b = bytes_eq a.vpc b.vpc && (nat_le a.first b.last && nat_le b.first a.last)

-- the least address that both have
abbrev pub first_shared : Claim → Claim → Option ℕ
first_shared a b = if meets a b then Some (if nat_le a.first b.first then b.first else a.first) else None

-- the lesser of two numbers, where there are
abbrev pub lesser : Option ℕ → Option ℕ → Option ℕ
lesser None o = o
lesser (Some m) None = Some m
lesser (Some m) (Some n) = if nat_lt n m then Some n else Some m

-- the least address that a claim shares with any of some others
abbrev pub least_shared : List Claim → Claim → Option ℕ
least_shared [] c = None
least_shared (b ∷ bs) c = lesser (first_shared b c) (least_shared bs c)

-- a claim shares an address with others
abbrev pub clash_with : List Claim → Claim → List Refusal
clash_with others c = elim (least_shared others c) [ None ↦ [] | Some a ↦ refusals.DuplicateAddress c.vpc a ∷ [] ]

-- each address of an interface with those before it, its own and those of earlier interfaces
abbrev pub address_clashes : List Claim → List Claim → List Refusal
address_clashes earlier [] = []
address_clashes earlier (c ∷ cs) = clash_with earlier c ++ address_clashes (earlier ++ c ∷ []) cs

-- an interface's addresses, and then its blocks, which it may share with its own addresses and other blocks
abbrev pub interface_clashes : Description → List Claim → Interface → List Refusal
interface_clashes d earlier e = address_clashes earlier (address_claims d e) ++ flat_map (clash_with earlier) (prefix_claims d e)

-- the interfaces, each with what those before it claim
abbrev pub clashes_after : Description → List Claim → List Interface → List Refusal
clashes_after d earlier [] = []
clashes_after d earlier (e ∷ es) = interface_clashes d earlier e ++ clashes_after d (earlier ++ claims_of d e) es

-- an address of a VPC is claimed twice (profile; within an interface's own blocks it may be)
abbrev pub duplicate_addresses : Description → List Refusal
duplicate_addresses d = clashes_after d [] d.interfaces

-- the public addresses of all interfaces
abbrev pub public_addresses : Description → List ℕ
public_addresses d = flat_map (λ e. filter_map (λ x. x.1) e.addresses) d.interfaces

-- a public address stands twice
abbrev pub duplicate_publics : Description → List Refusal
duplicate_publics d = map refusals.DuplicatePublic (repeats (λ a b. a == b) (public_addresses d))

-- ---- tables, ACLs and gateways of subnets and VPCs

-- the table is associated with the subnet
abbrev pub is_table_of : List ℕ → RouteTable → Bool
is_table_of subnet t = is_listed subnet t.subnets

-- the table is a main table of the VPC
abbrev pub is_main_of : List ℕ → RouteTable → Bool
is_main_of vpc t = t.main && bytes_eq t.vpc vpc

-- no table is associated with a subnet, and its VPC has no main table
abbrev pub without_table : Description → List Refusal
without_table d =
    map (λ s. refusals.NoRouteTable s.id) (filter (λ s. not (list_any (λ t. is_table_of s.id t || is_main_of s.vpc t) d.tables)) d.subnets)

-- no ACL is associated with a subnet
abbrev pub without_acl : Description → List Refusal
without_acl d = map (λ s. refusals.NoAcl s.id) (filter (λ s. not (list_any (λ a. is_listed s.id a.subnets) d.acls)) d.subnets)

-- the test holds of two rows or more
abbrev pub holds_twice : {X : Type 0} → (X → Bool) → List X → Bool
holds_twice test rows = nat_le 2 (count_by test rows)

-- two internet gateways are attached to a VPC
abbrev pub two_gateways : Description → List Refusal
two_gateways d = map (λ v. refusals.TwoInternetGateways v.id) (filter (λ v. holds_twice (λ g. is_listed v.id g.vpcs) d.igws) d.vpcs)

-- a VPC has two main tables, or a subnet two tables
abbrev pub two_tables : Description → List Refusal
two_tables d =
    map (λ v. refusals.TwoTables v.id) (filter (λ v. holds_twice (is_main_of v.id) d.tables) d.vpcs)
    ++ map (λ s. refusals.TwoTables s.id) (filter (λ s. holds_twice (is_table_of s.id) d.tables) d.subnets)

-- a subnet has two ACLs
abbrev pub two_acls : Description → List Refusal
two_acls d = map (λ s. refusals.TwoAcls s.id) (filter (λ s. holds_twice (λ a. is_listed s.id a.subnets) d.acls) d.subnets)

-- ---- the length of lists

-- more than 100,000 members
abbrev pub is_long : {X : Type 0} → List X → Bool
is_long xs = nat_lt 100000 (length xs)

-- the list is too long, or a list in one of its rows
abbrev pub too_long : {X : Type 0} → ListName → (X → Bool) → List X → List Refusal
too_long name row_is_long rows = if is_long rows || list_any row_is_long rows then refusals.TooManyRows name ∷ [] else []

-- the blocks, prefix lists or groups of a rule
abbrev pub is_long_rule : Permission → Bool
is_long_rule p = is_long p.blocks || (is_long p.lists || is_long p.groups)

-- the rules of a group, or what one of them names
abbrev pub is_long_group : Group → Bool
is_long_group g = is_long g.inward || (is_long g.outward || list_any is_long_rule (g.inward ++ g.outward))

-- the list that tells what leads to a network
abbrev pub list_of_far : FarKind → ListName
list_of_far (fars.PrivateGateway vpc) = named.VpnGateways
list_of_far (fars.Attachment vpc) = named.TransitGatewayAttachments
list_of_far (fars.Peering requester accepter) = named.VpcPeeringConnections
list_of_far (fars.Endpoint vpc) = named.VpcEndpoints

-- the blocks of a peering's side
abbrev pub is_long_far : FarKind → Bool
is_long_far (fars.PrivateGateway vpc) = false
is_long_far (fars.Attachment vpc) = false
is_long_far (fars.Peering requester accepter) = is_long requester || is_long accepter
is_long_far (fars.Endpoint vpc) = false

-- rows past the 100,000th, by the list that tells the first of them, or blocks of one row
abbrev pub too_many_fars : Description → List Refusal
too_many_fars d = map (λ f. refusals.TooManyRows (list_of_far f.kind)) (drop 100000 d.fars ++ filter (λ f. is_long_far f.kind) d.fars)

-- lists that are too long
abbrev pub too_many_rows : Description → List Refusal
too_many_rows d =
    too_long named.Vpcs (λ v. is_long v.blocks) d.vpcs
    ++ too_long named.Subnets (λ s. false) d.subnets
    ++ too_long named.NetworkInterfaces (λ e. is_long e.addresses || (is_long e.prefixes || is_long e.groups)) d.interfaces
    ++ too_long named.RouteTables (λ t. is_long t.subnets || (is_long t.gateways || is_long t.routes)) d.tables
    ++ too_long named.PrefixLists (λ l. is_long l.entries) d.lists
    ++ too_long named.NetworkAcls (λ a. is_long a.subnets || is_long a.rows) d.acls
    ++ too_long named.SecurityGroups is_long_group d.groups
    ++ too_long named.InternetGateways (λ g. is_long g.vpcs) d.igws
    ++ too_long named.NatGateways (λ n. false) d.nats
    ++ too_long named.VpcPeeringConnections (λ x. false) d.peerings
    ++ too_long named.TransitGatewayVpcAttachments (λ a. is_long a.subnets) d.attachments
    ++ too_long named.TransitGatewayAttachments (λ x. false) d.associations
    ++ too_long named.TransitGatewayRoutes (λ t. is_long t.routes) d.tgw_tables
    ++ too_long named.Appliances (λ a. false) d.appliances
    ++ too_many_fars d
    ++ too_long named.VpcEndpoints (λ e. false) d.firewalls

-- ---- all of them

-- what is wrong with a description, the first cause first
abbrev pub refusals_of : Description → List Refusal
refusals_of d =
    duplicate_ids d ++ missing_references d ++ duplicate_addresses d ++ duplicate_publics d ++ without_table d
    ++ without_acl d ++ two_gateways d ++ two_tables d ++ two_acls d ++ too_many_rows d

-- nothing is wrong
abbrev pub IsAccepted : Description → Type 0
IsAccepted d = refusals_of d ≡ []

-- the first of some causes
abbrev pub first_cause : List Refusal → Option Refusal
first_cause [] = None
first_cause (r ∷ rs) = Some r

-- the first cause, where something is wrong
abbrev pub refusal_of : Description → Option Refusal
refusal_of d = first_cause (refusals_of d)
