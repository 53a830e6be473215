-- Each row of a network that a bundle describes is as its type allows.
use Rattle.std.proofs.Common.{All, Bool, Err, IfOk, IfSome, List, None, Ok, Option, Result, Some, [], bytes_eq, codes, false, flat_map, if◌then◌else◌, is_some, nat_eq, refl, slice_get, true, ℕ, ◌∷◌}
use Rattle.std.specs.List.{AllByRecursion, starts_with}
use Rattle.std.proofs.lemmas.List.Elements.{All-append, All-cons, All-head, All-nil, All-tail}
use Rattle.serde_json.specs.Data.{Data}
use Rattle.json_fields.specs.FieldFault.{if_there}
use Rattle.json_fields.specs.Fields.{addr_of_field, member_of, has_text, id_if_of, id_of, needed, part_of, prefix_of_field, within_part}
use Rattle.json_fields.specs.Kept.{each_item, each_kept_item}
use Rattle.json_fields.specs.Paths.{at_member}
use Rattle.json_fields.specs.declared.fault.FieldFault.{FieldFault}
use Rattle.json_fields.specs.declared.fault.FieldFault.TheVariants.{WrongShape}
use Rattle.prefix_text.specs.Block.{Block}
use Rattle.read_filters.specs.Acls.{acl_of, associated_subnet, entry_of}
use Rattle.read_gateways.specs.Terms.{attached_vpc, attachment_of, destination_of, first_attachment, head_of, id_item, internet_gateway_of, ipv4_route_of, is_active_of, is_usable_of, life_if, named_attachment, nat_gateway_of, pair_if, peering_of, text_is, tgw_route_of, tgw_table_of}
use Rattle.read_network.specs.Access.{access_at}
use Rattle.read_network.specs.Terms.{Choice, addresses_of, associated_block, choices, delegated_prefix, first_target, gateway_target, interface_of, is_listed, manner_of, private_address, reach_by_block, reach_by_list, reach_of, route_if, route_of, route_to, subnet_of, table_association, table_of, target_of, target_or, vpc_of, with_primary}
use Rattle.vpc_laws.specs.Types.{Acl, Attachment, InternetGateway, NatGateway, Peering, Reach, Route, Subnet, Target, Vpc}
use Rattle.vpc_model.specs.Terms.{both_addresses, target_id}
use Rattle.vpc_model.specs.declared.rows.Target.TheVariants as targets
use Rattle.listing_laws.specs.Typed.{HasListId, IsTyped, IsTypedRoute, IsTypedTable, IsTypedTgwRoute, IsTypedTgwTable}
use Rattle.listing_laws.proofs.ReadRows.{FitsBlock, IsAddress, IsId, addr_if_read, addr_read, any_then, each_item_read, each_kept_item_read, id_if_read, id_read, prefix_read, read_then, there_then}

-- ---- VPCs and subnets

abbrev pub HasVpcId : Vpc → Type 0
HasVpcId v = IsId v.id

pub vpc_read : (row : Data) (path : List ℕ) → IfOk (vpc_of row path) HasVpcId
vpc_read row path =
    read_then (id_of row path (codes "VpcId")) _ IsId HasVpcId (id_read row path (codes "VpcId")) (λ id is.
    any_then (needed prefix_of_field row path (codes "CidrBlock")) _ HasVpcId (λ block.
    any_then (each_kept_item associated_block row path (codes "CidrBlockAssociationSet")) _ HasVpcId (λ others.
    any_then (access_at row path) _ HasVpcId (λ access. is))))

abbrev pub HasSubnetId : Subnet → Type 0
HasSubnetId s = IsId s.id

pub subnet_read : (row : Data) (path : List ℕ) → IfOk (subnet_of row path) HasSubnetId
subnet_read row path =
    read_then (id_of row path (codes "SubnetId")) _ IsId HasSubnetId (id_read row path (codes "SubnetId")) (λ id is.
    any_then (id_of row path (codes "VpcId")) _ HasSubnetId
    (λ vpc. any_then (id_of row path (codes "AvailabilityZone")) _ HasSubnetId (λ zone.
    any_then (access_at row path) _ HasSubnetId (λ access. is))))

-- ---- interfaces

-- a private address, and the public one that it may have
record AreAddresses (x : ℕ × Option ℕ) : Type 0 where
  private : IsAddress x.0
  public : IfSome x.1 IsAddress

private_read : (row : Data) (path : List ℕ) → IfOk (private_address row path) AreAddresses
private_read row path =
    read_then (needed addr_of_field row path (codes "PrivateIpAddress")) _ IsAddress AreAddresses
    (addr_read row path (codes "PrivateIpAddress")) (λ own is.
    read_then (within_part addr_of_field row path (codes "Association") (codes "PublicIp")) _ (λ o. IfSome o IsAddress) AreAddresses
    (addr_if_read (part_of row (codes "Association")) (at_member path (codes "Association")) (codes "PublicIp"))
    (λ public may. record { private = is; public = may }))

with_primary_all : (primary : Option ℕ) (listed : List (ℕ × Option ℕ)) → IfSome primary IsAddress → All AreAddresses listed
    → All AreAddresses (with_primary primary listed)
with_primary_all None listed is all = all
with_primary_all (Some own) listed is all = by (is_listed own listed)
  where
    by : (b : Bool) → All AreAddresses (if b then listed else (own, None) ∷ listed)
    by true = all
    by false = All-cons AreAddresses (own, None) listed (record { private = is; public = tt }) all

both_all : (x : ℕ × Option ℕ) → AreAddresses x → All IsAddress (both_addresses x)
both_all (own, None) is = All-cons IsAddress own [] is.private (All-nil IsAddress)
both_all (own, Some public) is =
    All-cons IsAddress own (public ∷ []) is.private (All-cons IsAddress public [] is.public (All-nil IsAddress))

all_addresses : (xs : List (ℕ × Option ℕ)) → All AreAddresses xs → All IsAddress (flat_map both_addresses xs)
all_addresses [] all = All-nil IsAddress
all_addresses (x ∷ xs) all =
    All-append IsAddress (both_addresses x) (flat_map both_addresses xs) (both_all x (All-head AreAddresses x xs all))
    (all_addresses xs (All-tail AreAddresses x xs all))

addresses_read : (row : Data) (path : List ℕ) → IfOk (addresses_of row path) (λ a. IfSome a.primary IsAddress × All AreAddresses a.all)
addresses_read row path =
    read_then (addr_of_field row path (codes "PrivateIpAddress")) _ (λ o. IfSome o IsAddress) _
    (addr_if_read row path (codes "PrivateIpAddress")) (λ primary is.
    read_then (each_item private_address row path (codes "PrivateIpAddresses")) _ (All AreAddresses) _
    (each_item_read private_address AreAddresses row path (codes "PrivateIpAddresses") private_read)
    (λ listed all. (is, with_primary_all primary listed is all)))

pub interface_read : (row : Data) (path : List ℕ) → IfOk (interface_of row path) IsTyped
interface_read row path =
    read_then (id_of row path (codes "NetworkInterfaceId")) _ IsId IsTyped (id_read row path (codes "NetworkInterfaceId")) (λ id is.
    any_then (id_of row path (codes "SubnetId")) _ IsTyped (λ subnet.
    read_then (addresses_of row path) _ _ IsTyped (addresses_read row path) (λ addresses own.
    any_then (manner_of row path) _ IsTyped (λ manner.
    read_then (each_item delegated_prefix row path (codes "Ipv4Prefixes")) _ (All FitsBlock) IsTyped
    (each_item_read delegated_prefix FitsBlock row path (codes "Ipv4Prefixes") (λ item at. prefix_read item at (codes "Ipv4Prefix")))
    (λ prefixes fit. record { id = is; primary = own.0; addresses = all_addresses _ own.1; prefixes = fit })))))

-- ---- route tables

reach_by_list_read : (row : Data) (path : List ℕ) (o : Option (List ℕ)) → IfSome o IsId
    → IfOk (reach_by_list row path o) (λ r. IfSome r HasListId)
reach_by_list_read row path (Some list) is = is
reach_by_list_read row path None is = by (is_some (member_of row (codes "DestinationIpv6CidrBlock")))
  where
    by : (b : Bool) → IfOk (if b then Ok None else Err (WrongShape path)) (λ r. IfSome r HasListId)
    by true = tt
    by false = tt

reach_read : (row : Data) (path : List ℕ) → IfOk (reach_of row path) (λ r. IfSome r HasListId)
reach_read row path = any_then (prefix_of_field row path (codes "DestinationCidrBlock")) (reach_by_block row path) _ by
  where
    by : (o : Option Block) → IfOk (reach_by_block row path o) (λ r. IfSome r HasListId)
    by (Some block) = tt
    by None =
        read_then (id_if_of row path (codes "DestinationPrefixListId")) (reach_by_list row path) (λ o. IfSome o IsId) _
        (id_if_read row path (codes "DestinationPrefixListId")) (reach_by_list_read row path)

-- what an id stands for has this id, or one of its own
abbrev KeepsId : Choice → Type 0
KeepsId choice = (id : List ℕ) → IsId id → IsId (target_id (choice.1 id))

gateway_keeps : (id : List ℕ) → IsId id → IsId (target_id (gateway_target id))
gateway_keeps id is = by (bytes_eq id (codes "local")) (starts_with nat_eq id (codes "igw-"))
  where
    by : (local internet : Bool)
        → IsId (target_id (if local then targets.Local else (if internet then targets.Internet id else targets.Other id)))
    by true internet = refl
    by false true = is
    by false false = is

own_id : (id : List ℕ) → IsId id → IsId id
own_id id is = is

choices_keep : AllByRecursion KeepsId choices
choices_keep = (gateway_keeps, (own_id, (own_id, (own_id, (own_id, (own_id, (own_id, (own_id, (own_id, (own_id, tt))))))))))

abbrev HasTargetId : Target → Type 0
HasTargetId target = IsId (target_id target)

target_or_read : (o : Option (List ℕ)) (meaning : List ℕ → Target) (other : Result Target FieldFault) → IfSome o IsId
    → ((id : List ℕ) → IsId id → HasTargetId (meaning id)) → IfOk other HasTargetId
    → IfOk (target_or o meaning other) HasTargetId
target_or_read None meaning other is keeps rest = rest
target_or_read (Some id) meaning other is keeps rest = keeps id is

target_read : (cs : List Choice) (row : Data) (path : List ℕ) → AllByRecursion KeepsId cs → IfOk (first_target cs row path) HasTargetId
target_read [] row path all = refl
target_read (choice ∷ others) row path all =
    read_then (id_if_of row path choice.0) _ (λ o. IfSome o IsId) HasTargetId (id_if_read row path choice.0)
    (λ o is. target_or_read o choice.1 (first_target others row path) is all.0 (target_read others row path all.1))

abbrev IsTypedIfRoute : Option Route → Type 0
IsTypedIfRoute o = IfSome o IsTypedRoute

route_to_read : (row : Data) (path : List ℕ) (reach : Reach) → HasListId reach → IfOk (route_to row path reach) IsTypedIfRoute
route_to_read row path reach is =
    read_then (target_of row path) _ HasTargetId IsTypedIfRoute (target_read choices row path choices_keep) (λ target own.
    any_then (has_text (codes "blackhole") row path (codes "State")) _ IsTypedIfRoute (λ blackhole.
    any_then (has_text (codes "EnableVgwRoutePropagation") row path (codes "Origin")) _ IsTypedIfRoute
    (λ propagated. record { reach = is; target = own })))

route_if_read : (row : Data) (path : List ℕ) (o : Option Reach) → IfSome o HasListId → IfOk (route_if row path o) IsTypedIfRoute
route_if_read row path None is = tt
route_if_read row path (Some reach) is = route_to_read row path reach is

route_read : (row : Data) (path : List ℕ) → IfOk (route_of row path) IsTypedIfRoute
route_read row path =
    read_then (reach_of row path) (route_if row path) (λ o. IfSome o HasListId) IsTypedIfRoute (reach_read row path)
    (route_if_read row path)

pub table_read : (row : Data) (path : List ℕ) → IfOk (table_of row path) IsTypedTable
table_read row path =
    read_then (id_of row path (codes "RouteTableId")) _ IsId IsTypedTable (id_read row path (codes "RouteTableId")) (λ id is.
    any_then (id_of row path (codes "VpcId")) _ IsTypedTable (λ vpc.
    any_then (each_item table_association row path (codes "Associations")) _ IsTypedTable (λ associations.
    read_then (each_kept_item route_of row path (codes "Routes")) _ (All IsTypedRoute) IsTypedTable
    (each_kept_item_read route_of IsTypedRoute row path (codes "Routes") route_read)
    (λ routes all. record { id = is; routes = all }))))

-- ---- ACLs and gateways

abbrev pub HasAclId : Acl → Type 0
HasAclId a = IsId a.id

pub acl_read : (row : Data) (path : List ℕ) → IfOk (acl_of row path) HasAclId
acl_read row path =
    read_then (id_of row path (codes "NetworkAclId")) _ IsId HasAclId (id_read row path (codes "NetworkAclId")) (λ id is.
    any_then (each_item associated_subnet row path (codes "Associations")) _ HasAclId (λ subnets.
    any_then (each_kept_item entry_of row path (codes "Entries")) _ HasAclId (λ rows. is)))

abbrev pub HasIgwId : InternetGateway → Type 0
HasIgwId g = IsId g.id

pub igw_read : (row : Data) (path : List ℕ) → IfOk (internet_gateway_of row path) HasIgwId
igw_read row path =
    read_then (id_of row path (codes "InternetGatewayId")) _ IsId HasIgwId (id_read row path (codes "InternetGatewayId")) (λ id is.
    any_then (each_kept_item attached_vpc row path (codes "Attachments")) _ HasIgwId (λ vpcs. is))

abbrev pub HasNatId : NatGateway → Type 0
HasNatId n = IsId n.id

pub nat_read : (row : Data) (path : List ℕ) → IfOk (nat_gateway_of row path) HasNatId
nat_read row path =
    read_then (id_of row path (codes "NatGatewayId")) _ IsId HasNatId (id_read row path (codes "NatGatewayId")) (λ id is.
    any_then (text_is (codes "available") row path (codes "State")) _ HasNatId
    (λ available. any_then (life_if available row path) _ HasNatId (λ life. is)))

abbrev pub HasPeeringId : Peering → Type 0
HasPeeringId x = IsId x.id

pub peering_read : (row : Data) (path : List ℕ) → IfOk (peering_of row path) HasPeeringId
peering_read row path =
    read_then (id_of row path (codes "VpcPeeringConnectionId")) _ IsId HasPeeringId (id_read row path (codes "VpcPeeringConnectionId"))
    (λ id is.
    any_then (is_active_of row path) _ HasPeeringId (λ active. any_then (pair_if active row path) _ HasPeeringId (λ pair. is)))

-- ---- transit gateways

abbrev pub HasAttachmentId : Attachment → Type 0
HasAttachmentId a = IsId a.id

head_read : (row : Data) (path : List ℕ) → IfOk (head_of row path) (λ h. IsId h.id)
head_read row path =
    read_then (id_of row path (codes "TransitGatewayAttachmentId")) _ IsId _ (id_read row path (codes "TransitGatewayAttachmentId"))
    (λ id is.
    any_then (id_of row path (codes "TransitGatewayId")) _ _ (λ gateway. any_then (id_of row path (codes "VpcId")) _ _ (λ vpc. is)))

some_if : {A : Type 0} (P : A → Type 0) (b : Bool) (a : A) → P a → IfSome (if b then Some a else None) P
some_if P true a is = is
some_if P false a is = tt

pub attachment_read : (row : Data) (path : List ℕ) → IfOk (attachment_of row path) (λ o. IfSome o HasAttachmentId)
attachment_read row path =
    read_then (head_of row path) _ _ (λ o. IfSome o HasAttachmentId) (head_read row path) (λ head is.
    any_then (each_item id_item row path (codes "SubnetIds")) _ (λ o. IfSome o HasAttachmentId) (λ subnets.
    any_then (is_usable_of row path) _ (λ o. IfSome o HasAttachmentId) (λ usable. some_if HasAttachmentId usable _ is)))

first_of : (ids : List (List ℕ)) → All IsId ids → IfSome (slice_get ids 0) IsId
first_of [] all = tt
first_of (id ∷ ids) all = All-head IsId id ids all

first_attachment_read : (row : Data) (path : List ℕ) → IfOk (first_attachment row path) (λ o. IfSome o IsId)
first_attachment_read row path =
    read_then (each_item named_attachment row path (codes "TransitGatewayAttachments")) _ (All IsId) (λ o. IfSome o IsId)
    (each_item_read named_attachment IsId row path (codes "TransitGatewayAttachments")
    (λ item at. id_read item at (codes "TransitGatewayAttachmentId"))) first_of

ipv4_route_read : (block : Block) (row : Data) (path : List ℕ) → IfOk (ipv4_route_of block row path) IsTypedTgwRoute
ipv4_route_read block row path =
    any_then (text_is (codes "propagated") row path (codes "Type")) _ IsTypedTgwRoute (λ propagated.
    any_then (text_is (codes "blackhole") row path (codes "State")) _ IsTypedTgwRoute (λ blackhole.
    read_then (first_attachment row path) _ (λ o. IfSome o IsId) IsTypedTgwRoute (first_attachment_read row path) (λ attachment is. is)))

tgw_route_read : (row : Data) (path : List ℕ) → IfOk (tgw_route_of row path) (λ o. IfSome o IsTypedTgwRoute)
tgw_route_read row path =
    any_then (destination_of row path) (if_there (λ block. ipv4_route_of block row path)) (λ o. IfSome o IsTypedTgwRoute)
    (λ o. there_then (λ block. ipv4_route_of block row path) o IsTypedTgwRoute (λ block. ipv4_route_read block row path))

pub tgw_table_read : (row : Data) (path : List ℕ) → IfOk (tgw_table_of row path) IsTypedTgwTable
tgw_table_read row path =
    read_then (id_of row path (codes "TransitGatewayRouteTableId")) _ IsId IsTypedTgwTable
    (id_read row path (codes "TransitGatewayRouteTableId")) (λ id is.
    read_then (each_kept_item tgw_route_of row path (codes "Routes")) _ (All IsTypedTgwRoute) IsTypedTgwTable
    (each_kept_item_read tgw_route_of IsTypedTgwRoute row path (codes "Routes") tgw_route_read)
    (λ routes all. record { id = is; routes = all }))
