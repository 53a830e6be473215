-- By what tables packets come into VPCs, and what stands behind firewall endpoints.
use Rattle.std.specs.Prelude.{◌≡◌, [], Bool, List, None, Option, Some, is_some, map, option_and_then, option_map, slice_index_or, ℕ}
use Rattle.vpc_laws.specs.Types.{Box5, Description, Far, FirewallEndpoint, FirewallNo, TableNo}
use Rattle.vpc_model.specs.Appliances.{boxes_of_kind}
use Rattle.vpc_model.specs.Firewalls.{appliance_behind, edge_table, private_gateway_id}

-- the table of each internet gateway
abbrev pub tables_of_gateways : Description → List (Option TableNo)
tables_of_gateways d = map (λ g. edge_table d g.id) d.igws

-- the table of the virtual private gateway that leads to a network, if one does
abbrev pub network_table : Description → Far → Option TableNo
network_table d f = option_and_then (edge_table d) (private_gateway_id f)

-- of each network
abbrev pub tables_of_networks : Description → List (Option TableNo)
tables_of_networks d = map (network_table d) d.fars

-- the boxes of headers that the firewall behind an endpoint sends on, if a row tells them (profile)
abbrev pub boxes_of_firewall : Description → FirewallEndpoint → Option (List Box5)
boxes_of_firewall d e = option_map (λ a. boxes_of_kind a.kind) (appliance_behind d e.id)

-- of each endpoint
abbrev pub boxes_of_firewalls : Description → List (Option (List Box5))
boxes_of_firewalls d = map (boxes_of_firewall d) d.firewalls

-- these lists
pub record OutsideLists : Type 0 where
  pub gateways : List (Option TableNo)
  pub networks : List (Option TableNo)
  pub firewalls : List (Option (List Box5))

-- they are those of the description
pub record AreOutsideOf (d : Description) (x : OutsideLists) : Type 0 where
  pub gateways : x.gateways ≡ tables_of_gateways d
  pub networks : x.networks ≡ tables_of_networks d
  pub firewalls : x.firewalls ≡ boxes_of_firewalls d

-- it is told what stands behind an endpoint
abbrev pub is_told : OutsideLists → FirewallNo → Bool
is_told x e = is_some (slice_index_or x.firewalls e.0 None)

-- the boxes of headers that the firewall there sends on
abbrev pub boxes_in : OutsideLists → FirewallNo → List Box5
boxes_in x e = elim (slice_index_or x.firewalls e.0 None) [ None ↦ [] | Some boxes ↦ boxes ]
