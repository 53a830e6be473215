-- What leads to networks that aren't described, and firewall endpoints (EC2 API, DescribeVpnGateways,
-- DescribeTransitGatewayAttachments, DescribeVpcPeeringConnections and DescribeVpcEndpoints).
use Rattle.std.specs.Prelude.{ℕ, ◌&&◌, ◌||◌, ◌++◌, ◌∷◌, [], Bool, List, Option, Some, None, bytes_eq, codes, false, if◌then◌else◌, is_some, map, option_map, slice_get, Result, Ok, true}
use Rattle.std.specs.Str.{str_eq_ignore_ascii_case}
use Rattle.serde_json.specs.Data.{Data}
use Rattle.json_fields.specs.FieldFault.{and_then}
use Rattle.json_fields.specs.Fields.{has_text, id_if_of, id_of, needed, part_of, prefix_of_field, text_of}
use Rattle.json_fields.specs.Kept.{each_item, each_kept_item, each_kept_of, each_of, first_of_each, those_there}
use Rattle.json_fields.specs.Paths.{at_member}
use Rattle.json_fields.specs.declared.fault.FieldFault.{FieldFault}
use Rattle.prefix_text.specs.Block.{Block}
use Rattle.vpc_model.specs.declared.rows.Far.{Far}
use Rattle.vpc_model.specs.declared.rows.FarKind.{FarKind}
use Rattle.vpc_model.specs.declared.rows.FarKind.TheVariants as fars
use Rattle.vpc_model.specs.declared.rows.FirewallEndpoint.{FirewallEndpoint}
use Rattle.read_gateways.specs.Peerings.{is_active_of}
use Rattle.read_gateways.specs.Transit.{id_item, is_usable}
use Rattle.read_gateways.specs.declared.endpoints.Endpoint.{Endpoint}
use Rattle.read_gateways.specs.declared.endpoints.EndpointKind.{EndpointKind}
use Rattle.read_gateways.specs.declared.endpoints.EndpointKind.TheVariants as endpoints
use Rattle.read_gateways.specs.declared.outside.OutsideRows.{OutsideRows}

-- ---- virtual private gateways

-- the VPC of an attachment that is in force
abbrev pub vpc_in_force : Data → List ℕ → Result (Option (List ℕ)) FieldFault
vpc_in_force row path =
    and_then (has_text (codes "attached") row path (codes "State")) (λ attached.
    and_then (id_of row path (codes "VpcId")) (λ vpc.
    Ok (if attached then Some vpc else None)))

-- a virtual private gateway, with the VPC of its first attachment that is in force
abbrev pub private_gateway_of : Data → List ℕ → Result Far FieldFault
private_gateway_of row path =
    and_then (id_of row path (codes "VpnGatewayId")) (λ id.
    and_then (each_kept_item vpc_in_force row path (codes "VpcAttachments")) (λ vpcs.
    Ok (record { id = id; kind = fars.PrivateGateway (slice_get vpcs 0) })))

-- ---- attachments of transit gateways

-- what an attachment is of: a VPC has to be told
abbrev pub kind_of_resource : Option (List ℕ) → Option (List ℕ) → Option FarKind
kind_of_resource None resource = None
kind_of_resource (Some kind) resource =
    if bytes_eq kind (codes "vpc") then option_map (λ vpc. fars.Attachment (Some vpc)) resource
    else Some (fars.Attachment None)

-- the resource of an attachment
abbrev pub resource_of : Data → List ℕ → Result (Option FarKind) FieldFault
resource_of row path =
    and_then (text_of row path (codes "ResourceType")) (λ kind.
    and_then (id_if_of row path (codes "ResourceId")) (λ resource.
    Ok (kind_of_resource kind resource)))

-- the state is told, and one in which an attachment carries packets
abbrev pub is_usable_if : Option (List ℕ) → Bool
is_usable_if None = false
is_usable_if (Some state) = is_usable state

-- whether the attachment carries packets, if it is told
abbrev pub is_usable_if_of : Data → List ℕ → Result Bool FieldFault
is_usable_if_of row path = and_then (text_of row path (codes "State")) (λ state. Ok (is_usable_if state))

-- an attachment that carries packets for a gateway that is told
abbrev pub far_attachment_of : Data → List ℕ → Result (Option Far) FieldFault
far_attachment_of row path =
    and_then (id_of row path (codes "TransitGatewayAttachmentId")) (λ id.
    and_then (id_if_of row path (codes "TransitGatewayId")) (λ gateway.
    and_then (resource_of row path) (λ kind.
    and_then (is_usable_if_of row path) (λ usable.
    Ok (if usable && is_some gateway then option_map (λ k. record { id = id; kind = k }) kind else None)))))

-- ---- peerings

-- a further block of a side
abbrev pub side_block : Data → List ℕ → Result Block FieldFault
side_block item path = needed prefix_of_field item path (codes "CidrBlock")

-- the first block of a side, if it is told, before others
abbrev pub with_first : Option Block → List Block → List Block
with_first None blocks = blocks
with_first (Some b) blocks = b ∷ blocks

-- the blocks of a VPC that is on a side of a peering
abbrev pub blocks_of : Data → List ℕ → Result (List Block) FieldFault
blocks_of vpc path =
    and_then (prefix_of_field vpc path (codes "CidrBlock")) (λ first.
    and_then (each_item side_block vpc path (codes "CidrBlockSet")) (λ others.
    Ok (with_first first others)))

-- the blocks of the VPC on a side
abbrev pub side_blocks : Data → List ℕ → List ℕ → Result (List Block) FieldFault
side_blocks row path side = blocks_of (part_of row side) (at_member path side)

-- no block is told
abbrev pub is_untold : List Block → Bool
is_untold [] = true
is_untold (b ∷ bs) = false

-- both sides tell blocks
abbrev pub far_peering_by : List ℕ → List Block → List Block → Option Far
far_peering_by id requester accepter = if is_untold requester || is_untold accepter then None else Some (record { id = id; kind = fars.Peering requester accepter })

-- the blocks of an active peering: those of another aren't read
abbrev pub far_peering_if : Bool → List ℕ → Data → List ℕ → Result (Option Far) FieldFault
far_peering_if active id row path =
    if active then
    and_then (side_blocks row path (codes "RequesterVpcInfo")) (λ requester.
    and_then (side_blocks row path (codes "AccepterVpcInfo")) (λ accepter.
    Ok (far_peering_by id requester accepter)))
    else Ok None

-- a peering that is active and tells the blocks of both sides
abbrev pub far_peering_of : Data → List ℕ → Result (Option Far) FieldFault
far_peering_of row path =
    and_then (id_of row path (codes "VpcPeeringConnectionId")) (λ id.
    and_then (is_active_of row path) (λ active.
    far_peering_if active id row path))

-- ---- endpoints

-- what an endpoint of this type leads to; one of another, or of none, has interfaces that are described apart from it
abbrev pub kind_of_type : Option (List ℕ) → EndpointKind
kind_of_type None = endpoints.Interfaces
kind_of_type (Some type) =
    if bytes_eq type (codes "Gateway") then endpoints.Service
    else (if bytes_eq type (codes "GatewayLoadBalancer") then endpoints.Firewall else endpoints.Interfaces)

-- what the endpoint leads to
abbrev pub endpoint_kind_of : Data → List ℕ → Result EndpointKind FieldFault
endpoint_kind_of row path = and_then (text_of row path (codes "VpcEndpointType")) (λ type. Ok (kind_of_type type))

-- the state is told, and is available in small or capital letters
abbrev pub is_available : Option (List ℕ) → Bool
is_available None = false
is_available (Some state) = str_eq_ignore_ascii_case state (codes "available")

-- whether the endpoint is available
abbrev pub is_available_of : Data → List ℕ → Result Bool FieldFault
is_available_of row path = and_then (text_of row path (codes "State")) (λ state. Ok (is_available state))

-- the first subnet of an endpoint; its interfaces are read too
abbrev pub endpoint_subnet_of : Data → List ℕ → Result (Option (List ℕ)) FieldFault
endpoint_subnet_of row path =
    and_then (each_item id_item row path (codes "SubnetIds")) (λ subnets.
    and_then (each_item id_item row path (codes "NetworkInterfaceIds")) (λ interfaces.
    Ok (slice_get subnets 0)))

-- an endpoint that is available
abbrev pub endpoint_of : Data → List ℕ → Result (Option Endpoint) FieldFault
endpoint_of row path =
    and_then (id_of row path (codes "VpcEndpointId")) (λ id.
    and_then (endpoint_kind_of row path) (λ kind.
    and_then (id_of row path (codes "VpcId")) (λ vpc.
    and_then (is_available_of row path) (λ available.
    and_then (endpoint_subnet_of row path) (λ subnet.
    Ok (if available then Some (record { id = id; kind = kind; vpc = vpc; subnet = subnet }) else None))))))

-- a gateway endpoint leads to a service
abbrev pub far_endpoint : Endpoint → Option Far
far_endpoint e =
    elim e.kind [
      | endpoints.Service ↦ Some (record { id = e.id; kind = fars.Endpoint e.vpc })
      | endpoints.Firewall ↦ None
      | endpoints.Interfaces ↦ None
    ]

-- an endpoint in a subnet sends packets through a firewall
abbrev pub firewall_of_endpoint : Endpoint → Option FirewallEndpoint
firewall_of_endpoint e =
    elim e.kind [
      | endpoints.Service ↦ None
      | endpoints.Firewall ↦ option_map (λ subnet. record { id = e.id; vpc = e.vpc; subnet = subnet }) e.subnet
      | endpoints.Interfaces ↦ None
    ]

-- ---- the lists

-- what leads to networks, but for endpoints
abbrev pub leading_of : Data → Result (List Far) FieldFault
leading_of bundle =
    and_then (each_of private_gateway_of bundle (codes "VpnGateways")) (λ gateways.
    and_then (each_kept_of far_attachment_of bundle (codes "TransitGatewayAttachments")) (λ attachments.
    and_then (each_kept_of far_peering_of bundle (codes "VpcPeeringConnections")) (λ peerings.
    Ok (gateways ++ attachments ++ peerings))))

-- the endpoints that are available, each once
abbrev pub endpoints_of : Data → Result (List Endpoint) FieldFault
endpoints_of bundle =
    and_then (each_kept_of endpoint_of bundle (codes "VpcEndpoints")) (λ all.
    Ok (first_of_each (λ e. e.id) all))

-- gateway endpoints after what else leads to networks, each id once, and firewall endpoints
abbrev pub outside_by : List Far → List Endpoint → OutsideRows
outside_by leading endpoints = record {
  fars = first_of_each (λ f. f.id) (leading ++ those_there (map far_endpoint endpoints));
  firewalls = those_there (map firewall_of_endpoint endpoints);
}

-- what leads to networks that aren't described and firewall endpoints, in the order of reading, or the first fault
abbrev pub outside_of : Data → Result OutsideRows FieldFault
outside_of bundle =
    and_then (leading_of bundle) (λ leading.
    and_then (endpoints_of bundle) (λ endpoints.
    Ok (outside_by leading endpoints)))
