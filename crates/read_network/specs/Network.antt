-- What the lists of networks in a bundle mean. The first fault in the order of the lists is the answer.
use Rattle.std.specs.Prelude.{List, Result, Ok, codes}
use Rattle.serde_json.specs.Data.{Data}
use Rattle.json_fields.specs.FieldFault.{and_then}
use Rattle.json_fields.specs.Kept.{each_of}
use Rattle.json_fields.specs.declared.fault.FieldFault.{FieldFault}
use Rattle.vpc_model.specs.declared.rows.Interface.{Interface}
use Rattle.vpc_model.specs.declared.rows.RouteTable.{RouteTable}
use Rattle.vpc_model.specs.declared.rows.Subnet.{Subnet}
use Rattle.vpc_model.specs.declared.rows.Vpc.{Vpc}
use Rattle.read_network.specs.Interfaces.{interface_of}
use Rattle.read_network.specs.PrefixLists.{prefix_lists_of}
use Rattle.read_network.specs.Subnets.{subnet_of}
use Rattle.read_network.specs.Tables.{table_of}
use Rattle.read_network.specs.Vpcs.{vpc_of}
use Rattle.read_network.specs.declared.network.NetworkRows.{NetworkRows}

abbrev pub vpcs_of : Data → Result (List Vpc) FieldFault
vpcs_of bundle = each_of vpc_of bundle (codes "Vpcs")

abbrev pub subnets_of : Data → Result (List Subnet) FieldFault
subnets_of bundle = each_of subnet_of bundle (codes "Subnets")

abbrev pub interfaces_of : Data → Result (List Interface) FieldFault
interfaces_of bundle = each_of interface_of bundle (codes "NetworkInterfaces")

abbrev pub tables_of : Data → Result (List RouteTable) FieldFault
tables_of bundle = each_of table_of bundle (codes "RouteTables")

-- the VPCs, subnets, interfaces, route tables and prefix lists of a bundle
abbrev pub network_of : Data → Result NetworkRows FieldFault
network_of bundle =
    and_then (vpcs_of bundle) (λ vpcs.
    and_then (subnets_of bundle) (λ subnets.
    and_then (interfaces_of bundle) (λ interfaces.
    and_then (tables_of bundle) (λ tables.
    and_then (prefix_lists_of bundle) (λ lists.
    Ok (record { vpcs = vpcs; subnets = subnets; interfaces = interfaces; tables = tables; lists = lists }))))))
