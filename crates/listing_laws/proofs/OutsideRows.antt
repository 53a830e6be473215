-- Each row that leads to a network that isn't described, and each firewall endpoint, is as its type allows.
use Rattle.std.proofs.Common.{All, Bool, IfOk, IfSome, List, None, Option, Some, codes, false, if◌then◌else◌, is_some, map, option_map, slice_index_or, true, ℕ, ◌&&◌, ◌++◌, ◌||◌}
use Rattle.std.proofs.lemmas.List.Elements.{All-append, All-map}
use Rattle.serde_json.specs.Data.{Data}
use Rattle.json_fields.specs.Fields.{id_if_of, id_of}
use Rattle.json_fields.specs.Kept.{each_kept_item, each_kept_of, each_of, those_there}
use Rattle.prefix_text.specs.Block.{Block}
use Rattle.read_gateways.specs.Outside.{endpoint_kind_of, endpoint_subnet_of, is_available_of, is_untold, is_usable_if_of}
use Rattle.read_gateways.specs.Terms.{endpoint_of, endpoints_of, far_attachment_of, far_endpoint, far_peering_by, far_peering_if, far_peering_of, firewall_of_endpoint, is_active_of, leading_of, outside_of, private_gateway_of, resource_of, side_blocks, vpc_in_force}
use Rattle.read_gateways.specs.declared.endpoints.Endpoint.{Endpoint}
use Rattle.read_gateways.specs.declared.endpoints.EndpointKind.{EndpointKind}
use Rattle.read_gateways.specs.declared.endpoints.EndpointKind.TheVariants as endpoints
use Rattle.read_gateways.specs.declared.outside.OutsideRows.{OutsideRows}
use Rattle.vpc_laws.specs.Types.{Far, FarKind, FirewallEndpoint}
use Rattle.vpc_model.specs.declared.rows.FarKind.TheVariants as kinds
use Rattle.listing_laws.proofs.ReadRows.{IsId, any_then, each_kept_of_read, each_of_read, firsts_all, id_read, kept_all, read_then}

abbrev HasFarId : Far → Type 0
HasFarId f = IsId f.id

-- a row that may be there
abbrev MayHaveId : Option Far → Type 0
MayHaveId o = IfSome o HasFarId

given_if : {A : Type 0} (P : A → Type 0) (b : Bool) (o : Option A) → IfSome o P → IfSome (if b then o else None) P
given_if P true o is = is
given_if P false o is = tt

given_unless : {A : Type 0} (P : A → Type 0) (b : Bool) (o : Option A) → IfSome o P → IfSome (if b then None else o) P
given_unless P true o is = tt
given_unless P false o is = is

-- ---- virtual private gateways and attachments

private_gateway_read : (row : Data) (path : List ℕ) → IfOk (private_gateway_of row path) HasFarId
private_gateway_read row path =
    read_then (id_of row path (codes "VpnGatewayId")) _ IsId HasFarId (id_read row path (codes "VpnGatewayId")) (λ id is.
    any_then (each_kept_item vpc_in_force row path (codes "VpcAttachments")) _ HasFarId (λ vpcs. is))

of_kind : (id : List ℕ) (kind : Option FarKind) → IsId id → MayHaveId (option_map (λ k. record { id = id; kind = k }) kind)
of_kind id None is = tt
of_kind id (Some k) is = is

far_attachment_read : (row : Data) (path : List ℕ) → IfOk (far_attachment_of row path) MayHaveId
far_attachment_read row path =
    read_then (id_of row path (codes "TransitGatewayAttachmentId")) _ IsId MayHaveId (id_read row path (codes "TransitGatewayAttachmentId"))
    (λ id is.
    any_then (id_if_of row path (codes "TransitGatewayId")) _ MayHaveId (λ gateway.
    any_then (resource_of row path) _ MayHaveId (λ kind.
    any_then (is_usable_if_of row path) _ MayHaveId
    (λ usable. given_if HasFarId (usable && is_some gateway) _ (of_kind id kind is)))))

-- ---- peerings

by_sides : (id : List ℕ) (requester accepter : List Block) → IsId id → MayHaveId (far_peering_by id requester accepter)
by_sides id requester accepter is =
    given_unless HasFarId (is_untold requester || is_untold accepter) (Some (record { id = id; kind = kinds.Peering requester accepter })) is

peering_if_read : (active : Bool) (id : List ℕ) (row : Data) (path : List ℕ) → IsId id → IfOk (far_peering_if active id row path) MayHaveId
peering_if_read false id row path is = tt
peering_if_read true id row path is =
    any_then (side_blocks row path (codes "RequesterVpcInfo")) _ MayHaveId (λ requester.
    any_then (side_blocks row path (codes "AccepterVpcInfo")) _ MayHaveId (λ accepter. by_sides id requester accepter is))

far_peering_read : (row : Data) (path : List ℕ) → IfOk (far_peering_of row path) MayHaveId
far_peering_read row path =
    read_then (id_of row path (codes "VpcPeeringConnectionId")) _ IsId MayHaveId (id_read row path (codes "VpcPeeringConnectionId"))
    (λ id is. any_then (is_active_of row path) _ MayHaveId (λ active. peering_if_read active id row path is))

leading_read : (bundle : Data) → IfOk (leading_of bundle) (All HasFarId)
leading_read bundle =
    read_then (each_of private_gateway_of bundle (codes "VpnGateways")) _ (All HasFarId) (All HasFarId)
    (each_of_read private_gateway_of HasFarId bundle (codes "VpnGateways") private_gateway_read) (λ gateways a.
    read_then (each_kept_of far_attachment_of bundle (codes "TransitGatewayAttachments")) _ (All HasFarId) (All HasFarId)
    (each_kept_of_read far_attachment_of HasFarId bundle (codes "TransitGatewayAttachments") far_attachment_read) (λ attachments b.
    read_then (each_kept_of far_peering_of bundle (codes "VpcPeeringConnections")) _ (All HasFarId) (All HasFarId)
    (each_kept_of_read far_peering_of HasFarId bundle (codes "VpcPeeringConnections") far_peering_read)
    (λ peerings c. All-append HasFarId (gateways ++ attachments) peerings (All-append HasFarId gateways attachments a b) c)))

-- ---- endpoints

abbrev HasEndpointId : Endpoint → Type 0
HasEndpointId e = IsId e.id

abbrev HasFirewallId : FirewallEndpoint → Type 0
HasFirewallId e = IsId e.id

endpoint_read : (row : Data) (path : List ℕ) → IfOk (endpoint_of row path) (λ o. IfSome o HasEndpointId)
endpoint_read row path =
    read_then (id_of row path (codes "VpcEndpointId")) _ IsId (λ o. IfSome o HasEndpointId) (id_read row path (codes "VpcEndpointId"))
    (λ id is.
    any_then (endpoint_kind_of row path) _ (λ o. IfSome o HasEndpointId) (λ kind.
    any_then (id_of row path (codes "VpcId")) _ (λ o. IfSome o HasEndpointId) (λ vpc.
    any_then (is_available_of row path) _ (λ o. IfSome o HasEndpointId) (λ available.
    any_then (endpoint_subnet_of row path) _ (λ o. IfSome o HasEndpointId)
    (λ subnet. given_if HasEndpointId available (Some (record { id = id; kind = kind; vpc = vpc; subnet = subnet })) is)))))

endpoints_read : (bundle : Data) → IfOk (endpoints_of bundle) (All HasEndpointId)
endpoints_read bundle =
    read_then (each_kept_of endpoint_of bundle (codes "VpcEndpoints")) _ (All HasEndpointId) (All HasEndpointId)
    (each_kept_of_read endpoint_of HasEndpointId bundle (codes "VpcEndpoints") endpoint_read)
    (λ all each. firsts_all HasEndpointId (λ e. e.id) all each)

service_has : (kind : EndpointKind) (service : Far) → HasFarId service
    → MayHaveId (elim kind [ endpoints.Service ↦ Some service | endpoints.Firewall ↦ None | endpoints.Interfaces ↦ None ])
service_has endpoints.Service service is = is
service_has endpoints.Firewall service is = tt
service_has endpoints.Interfaces service is = tt

far_has : (e : Endpoint) → HasEndpointId e → MayHaveId (far_endpoint e)
far_has e is = service_has e.kind (record { id = e.id; kind = kinds.Endpoint e.vpc }) is

-- a firewall endpoint that may be there
abbrev MayBeFirewall : Option FirewallEndpoint → Type 0
MayBeFirewall o = IfSome o HasFirewallId

in_subnet : (id vpc : List ℕ) (subnet : Option (List ℕ)) → IsId id
    → MayBeFirewall (option_map (λ s. record { id = id; vpc = vpc; subnet = s }) subnet)
in_subnet id vpc None is = tt
in_subnet id vpc (Some s) is = is

firewall_has : (kind : EndpointKind) (firewall : Option FirewallEndpoint) → MayBeFirewall firewall
    → MayBeFirewall (elim kind [ endpoints.Service ↦ None | endpoints.Firewall ↦ firewall | endpoints.Interfaces ↦ None ])
firewall_has endpoints.Service firewall is = tt
firewall_has endpoints.Firewall firewall is = is
firewall_has endpoints.Interfaces firewall is = tt

endpoint_has : (e : Endpoint) → HasEndpointId e → MayBeFirewall (firewall_of_endpoint e)
endpoint_has e is = firewall_has e.kind _ (in_subnet e.id e.vpc e.subnet is)

services_all : (all : List Endpoint) → All HasEndpointId all → All HasFarId (those_there (map far_endpoint all))
services_all all each =
    kept_all HasFarId (map far_endpoint all)
    (All-map MayHaveId far_endpoint all (λ k other less. far_has (slice_index_or all k other) (each k other less)))

firewalls_all : (all : List Endpoint) → All HasEndpointId all → All HasFirewallId (those_there (map firewall_of_endpoint all))
firewalls_all all each =
    kept_all HasFirewallId (map firewall_of_endpoint all)
    (All-map MayBeFirewall firewall_of_endpoint all (λ k other less. endpoint_has (slice_index_or all k other) (each k other less)))

-- ---- the lists

pub record AreTypedOutsideRows (o : OutsideRows) : Type 0 where
  pub fars : All HasFarId o.fars
  pub firewalls : All HasFirewallId o.firewalls

pub outside_read : (bundle : Data) → IfOk (outside_of bundle) AreTypedOutsideRows
outside_read bundle =
    read_then (leading_of bundle) _ (All HasFarId) AreTypedOutsideRows (leading_read bundle) (λ leading a.
    read_then (endpoints_of bundle) _ (All HasEndpointId) AreTypedOutsideRows (endpoints_read bundle) (λ all each. record {
      fars =
          firsts_all HasFarId (λ f. f.id) (leading ++ those_there (map far_endpoint all))
          (All-append HasFarId leading (those_there (map far_endpoint all)) a (services_all all each));
      firewalls = firewalls_all all each;
    }))
