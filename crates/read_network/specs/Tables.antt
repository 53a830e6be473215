-- What the rows of RouteTables mean (EC2 API, DescribeRouteTables).
use Rattle.std.specs.Prelude.{ℕ, List, Result, Ok, codes, map, unwrap_or, Bool, false}
use Rattle.std.specs.List.{list_any}
use Rattle.serde_json.specs.Data.{Data}
use Rattle.json_fields.specs.FieldFault.{and_then}
use Rattle.json_fields.specs.Fields.{flag_of, id_if_of, id_of}
use Rattle.json_fields.specs.Kept.{each_item, each_kept_item, those_there}
use Rattle.json_fields.specs.declared.fault.FieldFault.{FieldFault}
use Rattle.vpc_model.specs.declared.rows.RouteTable.{RouteTable}
use Rattle.read_network.specs.Routes.{route_of}
use Rattle.read_network.specs.declared.tables.Served.{Served}
use Rattle.read_network.specs.declared.tables.TableAssociation.{TableAssociation}

-- an association, which makes the table the VPC's main one, or a subnet's, or a gateway's
abbrev pub table_association : Data → List ℕ → Result TableAssociation FieldFault
table_association row path =
    and_then (flag_of row path (codes "Main")) (λ main.
    and_then (id_if_of row path (codes "SubnetId")) (λ subnet.
    and_then (id_if_of row path (codes "GatewayId")) (λ gateway.
    Ok (record { main = unwrap_or main false; subnet = subnet; gateway = gateway }))))

-- one of the associations makes the table the main one
abbrev pub is_main : List TableAssociation → Bool
is_main = list_any (λ a. a.main)

-- the subnets of the associations
abbrev pub subnets_of : List TableAssociation → List (List ℕ)
subnets_of associations = those_there (map (λ a. a.subnet) associations)

-- the gateways of the associations
abbrev pub gateways_of : List TableAssociation → List (List ℕ)
gateways_of associations = those_there (map (λ a. a.gateway) associations)

-- whose packets the table routes, by its associations
abbrev pub served_of : List TableAssociation → Served
served_of associations = record { subnets = subnets_of associations; gateways = gateways_of associations }

-- a route table
abbrev pub table_of : Data → List ℕ → Result RouteTable FieldFault
table_of row path =
    and_then (id_of row path (codes "RouteTableId")) (λ id.
    and_then (id_of row path (codes "VpcId")) (λ vpc.
    and_then (each_item table_association row path (codes "Associations")) (λ associations.
    and_then (each_kept_item route_of row path (codes "Routes")) (λ routes.
    Ok (record {
      id = id;
      vpc = vpc;
      main = is_main associations;
      subnets = subnets_of associations;
      gateways = gateways_of associations;
      routes = routes;
    })))))
