-- The rows of a network that a bundle describes are as their types allow.
use Rattle.std.proofs.Common.{All, Err, IfOk, List, Ok, Result, [], codes, map, refl, subst, ℕ, ◌∷◌, ◌≡◌}
use Rattle.std.proofs.lemmas.List.Elements.{All-map}
use Rattle.serde_json.specs.Data.{Data}
use Rattle.bundle.specs.Instances.{idle_by, instances_of, stopped_of}
use Rattle.bundle.specs.Meaning.{accepted, description_of, judged}
use Rattle.json_fields.specs.Kept.{each_kept_of, each_of}
use Rattle.json_fields.specs.declared.fault.FieldFault.{FieldFault}
use Rattle.read_filters.specs.Acls.{acl_of}
use Rattle.read_filters.specs.Filters.{filters_of}
use Rattle.read_filters.specs.GroupRules.{group_rules_of}
use Rattle.read_gateways.specs.Scope.{scope_of}
use Rattle.read_filters.specs.Groups.{group_of}
use Rattle.read_gateways.specs.Terms.{associations_of, attachment_of, attachments_of, gateways_of, igws_of, internet_gateway_of, nat_gateway_of, nats_of, outside_of, peering_of, peerings_of, tgw_table_of, tgw_tables_of, transit_of}
use Rattle.read_network.specs.Terms.{appliances_of, interface_of, interfaces_of, network_of, prefix_lists_of, subnet_of, subnets_of, table_of, tables_of, vpc_of, vpcs_of}
use Rattle.read_gateways.specs.declared.reader.GatewayRows.{GatewayRows}
use Rattle.read_network.specs.declared.network.NetworkRows.{NetworkRows}
use Rattle.vpc_laws.specs.Types.{Description, Interface, Refusal}
use Rattle.vpc_model.specs.Terms.{IsAccepted, first_cause, refusals_of}
use Rattle.listing_laws.specs.Networks.{BundlesCanBeListed}
use Rattle.listing_laws.specs.Typed.{HasTypedRows, IsTyped, IsTypedTable, IsTypedTgwTable}
use Rattle.listing_laws.proofs.ReadRows.{any_then, each_kept_of_read, each_of_read, firsts_all, read_then}
use Rattle.listing_laws.proofs.NetworkRows.{HasAclId, HasAttachmentId, HasIgwId, HasNatId, HasPeeringId, HasSubnetId, HasVpcId, acl_read, attachment_read, igw_read, interface_read, nat_read, peering_read, subnet_read, table_read, tgw_table_read, vpc_read}
use Rattle.listing_laws.proofs.OutsideRows.{AreTypedOutsideRows, outside_read}

-- ---- all lists

record AreTypedNetworkRows (n : NetworkRows) : Type 0 where
  vpcs : All HasVpcId n.vpcs
  subnets : All HasSubnetId n.subnets
  interfaces : All IsTyped n.interfaces
  tables : All IsTypedTable n.tables

network_read : (bundle : Data) → IfOk (network_of bundle) AreTypedNetworkRows
network_read bundle =
    read_then (vpcs_of bundle) _ (All HasVpcId) AreTypedNetworkRows (each_of_read vpc_of HasVpcId bundle (codes "Vpcs") vpc_read) (λ vpcs a.
    read_then (subnets_of bundle) _ (All HasSubnetId) AreTypedNetworkRows
    (each_of_read subnet_of HasSubnetId bundle (codes "Subnets") subnet_read) (λ subnets b.
    read_then (interfaces_of bundle) _ (All IsTyped) AreTypedNetworkRows
    (each_of_read interface_of IsTyped bundle (codes "NetworkInterfaces") interface_read) (λ interfaces c.
    read_then (tables_of bundle) _ (All IsTypedTable) AreTypedNetworkRows
    (each_of_read table_of IsTypedTable bundle (codes "RouteTables") table_read) (λ tables d.
    any_then (prefix_lists_of bundle) _ AreTypedNetworkRows (λ lists. record { vpcs = a; subnets = b; interfaces = c; tables = d })))))

filters_read : (bundle : Data) → IfOk (filters_of bundle) (λ f. All HasAclId f.acls)
filters_read bundle =
    read_then (each_of acl_of bundle (codes "NetworkAcls")) _ (All HasAclId) _
    (each_of_read acl_of HasAclId bundle (codes "NetworkAcls") acl_read)
    (λ acls all. any_then (each_of group_of bundle (codes "SecurityGroups")) _ _ (λ groups. all))

record AreTypedGatewayRows (g : GatewayRows) : Type 0 where
  igws : All HasIgwId g.igws
  nats : All HasNatId g.nats
  peerings : All HasPeeringId g.peerings
  attachments : All HasAttachmentId g.attachments
  tgw_tables : All IsTypedTgwTable g.tgw_tables

peerings_read : (bundle : Data) → IfOk (peerings_of bundle) (All HasPeeringId)
peerings_read bundle =
    read_then (each_of peering_of bundle (codes "VpcPeeringConnections")) _ (All HasPeeringId) (All HasPeeringId)
    (each_of_read peering_of HasPeeringId bundle (codes "VpcPeeringConnections") peering_read)
    (λ all each. firsts_all HasPeeringId (λ x. x.id) all each)

attachments_read : (bundle : Data) → IfOk (attachments_of bundle) (All HasAttachmentId)
attachments_read bundle =
    read_then (each_kept_of attachment_of bundle (codes "TransitGatewayVpcAttachments")) _ (All HasAttachmentId) (All HasAttachmentId)
    (each_kept_of_read attachment_of HasAttachmentId bundle (codes "TransitGatewayVpcAttachments") attachment_read)
    (λ all each. firsts_all HasAttachmentId (λ x. x.id) all each)

transit_read : (bundle : Data) → IfOk (transit_of bundle) (λ t. All HasAttachmentId t.attachments × All IsTypedTgwTable t.tgw_tables)
transit_read bundle =
    read_then (attachments_of bundle) _ (All HasAttachmentId) _ (attachments_read bundle) (λ attachments a.
    any_then (associations_of bundle) _ _ (λ associations.
    read_then (tgw_tables_of bundle) _ (All IsTypedTgwTable) _
    (each_of_read tgw_table_of IsTypedTgwTable bundle (codes "TransitGatewayRoutes") tgw_table_read) (λ tgw_tables b. (a, b))))

gateways_read : (bundle : Data) → IfOk (gateways_of bundle) AreTypedGatewayRows
gateways_read bundle =
    read_then (igws_of bundle) _ (All HasIgwId) AreTypedGatewayRows
    (each_of_read internet_gateway_of HasIgwId bundle (codes "InternetGateways") igw_read) (λ igws a.
    read_then (nats_of bundle) _ (All HasNatId) AreTypedGatewayRows
    (each_of_read nat_gateway_of HasNatId bundle (codes "NatGateways") nat_read) (λ nats b.
    read_then (peerings_of bundle) _ (All HasPeeringId) AreTypedGatewayRows (peerings_read bundle) (λ peerings c.
    read_then (transit_of bundle) _ _ AreTypedGatewayRows (transit_read bundle)
    (λ transit d. record { igws = a; nats = b; peerings = c; attachments = d.0; tgw_tables = d.1 }))))

-- an interface is as its type allows whatever its instance does
idle_all : (stopped : List (List ℕ)) (interfaces : List Interface) → All IsTyped interfaces → All IsTyped (map (idle_by stopped) interfaces)
idle_all stopped interfaces all =
    All-map IsTyped (idle_by stopped) interfaces (λ k e less. let typed = all k e less in record { id = typed.id; primary = typed.primary; addresses = typed.addresses; prefixes = typed.prefixes })

instances_read : (bundle : Data) (interfaces : List Interface) → All IsTyped interfaces → IfOk (instances_of bundle interfaces) (All IsTyped)
instances_read bundle interfaces all = any_then (stopped_of bundle) _ (All IsTyped) (λ stopped. idle_all stopped interfaces all)

description_read : (bundle : Data) → IfOk (description_of bundle) HasTypedRows
description_read bundle =
    read_then (network_of bundle) _ AreTypedNetworkRows HasTypedRows (network_read bundle) (λ network a.
    read_then (filters_of bundle) _ _ HasTypedRows (filters_read bundle) (λ filters b.
    read_then (gateways_of bundle) _ AreTypedGatewayRows HasTypedRows (gateways_read bundle) (λ gateways c.
    any_then (appliances_of bundle) _ HasTypedRows (λ appliances.
    any_then (group_rules_of bundle filters.groups) _ HasTypedRows (λ groups.
    read_then (outside_of bundle) _ AreTypedOutsideRows HasTypedRows (outside_read bundle) (λ outside o.
    read_then (instances_of bundle network.interfaces) _ (All IsTyped) HasTypedRows (instances_read bundle network.interfaces a.interfaces) (λ interfaces i.
    any_then (scope_of bundle) _ HasTypedRows (λ scope. record {
      vpcs = a.vpcs;
      subnets = a.subnets;
      interfaces = i;
      tables = a.tables;
      acls = b;
      igws = c.igws;
      nats = c.nats;
      peerings = c.peerings;
      attachments = c.attachments;
      tgw_tables = c.tgw_tables;
      fars = o.fars;
      firewalls = o.firewalls;
    }))))))))

-- ---- a network

by_causes : (e d : Description) (causes : List Refusal) → refusals_of e ≡ causes → HasTypedRows e → accepted e (first_cause causes) ≡ Ok d
    → HasTypedRows d × IsAccepted d
by_causes e d [] none typed is = let same : e ≡ d = cc in (subst HasTypedRows same typed, subst IsAccepted same none)
by_causes e d (cause ∷ others) some typed is = absurd (cc)

judged_as : (r : Result Description FieldFault) (d : Description) → IfOk r HasTypedRows → judged r ≡ Ok d → HasTypedRows d × IsAccepted d
judged_as (Ok e) d typed is = by_causes e d (refusals_of e) refl typed is
judged_as (Err fault) d typed is = absurd (cc)

pub bundles_can_be_listed : BundlesCanBeListed
bundles_can_be_listed bundle d is named =
    let both = judged_as (description_of bundle) d (description_read bundle) is in
    record { accepted = both.1; typed = both.0; named = named }
