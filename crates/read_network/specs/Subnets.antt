-- What the rows of Subnets mean (EC2 API, DescribeSubnets).
use Rattle.std.specs.Prelude.{ℕ, List, Result, Ok, codes}
use Rattle.serde_json.specs.Data.{Data}
use Rattle.json_fields.specs.FieldFault.{and_then}
use Rattle.json_fields.specs.Fields.{id_of}
use Rattle.json_fields.specs.declared.fault.FieldFault.{FieldFault}
use Rattle.read_network.specs.Access.{access_at}
use Rattle.vpc_model.specs.declared.rows.Subnet.{Subnet}

-- a subnet with its VPC, its zone and its mode
abbrev pub subnet_of : Data → List ℕ → Result Subnet FieldFault
subnet_of row path =
    and_then (id_of row path (codes "SubnetId")) (λ id.
    and_then (id_of row path (codes "VpcId")) (λ vpc.
    and_then (id_of row path (codes "AvailabilityZone")) (λ zone.
    and_then (access_at row path) (λ access.
    Ok (record { id = id; vpc = vpc; zone = zone; access = access })))))
