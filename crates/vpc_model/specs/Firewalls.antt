-- Firewall endpoints, which send packets through what a bundle's Appliances tell (Gateway Load Balancers guide, "Gateway Load
-- Balancer endpoints"), and the route tables of gateways, which send packets there (VPC User Guide, "Gateway route tables").
use Rattle.std.specs.List.{list_any}
use Rattle.std.specs.Prelude.{◌&&◌, [], if◌then◌else◌, Bool, List, None, Option, Some, bytes_eq, false, find, is_some, option_and_then, option_map, position, true, ℕ}
use Rattle.vpc_model.specs.Types.{Appliance, ApplianceAt, ApplianceKind, Box5, Description, Far, FarKind, FirewallEndpoint, FirewallNo, EnterBy, TableNo, VpcNo}
use Rattle.vpc_model.specs.declared.places.EnterBy.TheVariants as through
use Rattle.vpc_model.specs.declared.rows.ApplianceAt.TheVariants as at
use Rattle.vpc_model.specs.declared.rows.FarKind.TheVariants as kinds
use Rattle.vpc_model.specs.Appliances.{boxes_of_kind}
use Rattle.vpc_model.specs.Lookup.{far_at, firewall_at, gateway_of, igw_at, is_listed, vpc_at}

-- the appliance stands behind an endpoint
abbrev pub is_behind_endpoint : ApplianceAt → Bool
is_behind_endpoint at.Interface = false
is_behind_endpoint at.Endpoint = true

-- what stands behind an endpoint, if a row tells it (profile)
abbrev pub appliance_behind : Description → List ℕ → Option Appliance
appliance_behind d id = find (λ a. is_behind_endpoint a.at && bytes_eq a.id id) d.appliances

-- the endpoint is followed: it is told what stands behind it (profile)
abbrev pub is_followed : Description → FirewallEndpoint → Bool
is_followed d e = is_some (appliance_behind d e.id)

-- the boxes of headers that it sends on (profile)
abbrev pub boxes_behind : Description → FirewallNo → List Box5
boxes_behind d e = let row = firewall_at d e in elim (appliance_behind d row.id) [ None ↦ [] | Some a ↦ boxes_of_kind a.kind ]

-- the number of the endpoint with a VpcEndpointId
abbrev pub firewall_of_id : Description → List ℕ → Option FirewallNo
firewall_of_id d id = option_map (λ k. record { 0 = k }) (position (λ e. bytes_eq e.id id) d.firewalls)

-- an endpoint of the VPC that is followed (EC2 API, DescribeVpcEndpoints)
abbrev pub is_firewall_in : Description → VpcNo → FirewallNo → Bool
is_firewall_in d v e = let row = firewall_at d e in let vpc = vpc_at d v in bytes_eq row.vpc vpc.id && is_followed d row

-- the number of such an endpoint
abbrev pub firewall_of : Description → VpcNo → List ℕ → Option FirewallNo
firewall_of d v id = option_and_then (λ e. if is_firewall_in d v e then Some e else None) (firewall_of_id d id)

-- ---- the tables of gateways

-- the table that is associated with a gateway (EC2 API, DescribeRouteTables)
abbrev pub edge_table : Description → List ℕ → Option TableNo
edge_table d id = option_map (λ k. record { 0 = k }) (position (λ t. is_listed id t.gateways) d.tables)

-- the id of a virtual private gateway
abbrev pub private_gateway_id : Far → Option (List ℕ)
private_gateway_id f =
    elim f.kind [
      | kinds.PrivateGateway vpc ↦ Some f.id
      | kinds.Attachment vpc ↦ None
      | kinds.Peering requester accepter ↦ None
      | kinds.Endpoint vpc ↦ None
    ]

-- the gateway by which a packet enters a VPC: tables are associated with internet gateways and virtual private gateways (VPC User Guide, "Gateway route tables")
abbrev pub entrance : Description → VpcNo → EnterBy → Option (List ℕ)
entrance d v through.Gateway = option_map (λ g. let row = igw_at d g in row.id) (gateway_of d v)
entrance d v (through.Peering x) = None
entrance d v (through.Far k) = private_gateway_id (far_at d k)

-- the table of that gateway, if it has one
abbrev pub entrance_table : Description → VpcNo → EnterBy → Option TableNo
entrance_table d v by = option_and_then (edge_table d) (entrance d v by)
