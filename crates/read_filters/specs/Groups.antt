-- What the rows of SecurityGroups mean (EC2 API, DescribeSecurityGroups).
use Rattle.std.specs.Prelude.{ℕ, List, codes, Result, Ok}
use Rattle.serde_json.specs.Data.{Data}
use Rattle.json_fields.specs.FieldFault.{and_then}
use Rattle.json_fields.specs.Fields.{id_of}
use Rattle.json_fields.specs.Kept.{each_item}
use Rattle.json_fields.specs.declared.fault.FieldFault.{FieldFault}
use Rattle.vpc_model.specs.declared.rows.Group.{Group}
use Rattle.read_filters.specs.Permissions.{permission_of}

-- a group, with what it lets in and out
abbrev pub group_of : Data → List ℕ → Result Group FieldFault
group_of row path =
    and_then (id_of row path (codes "GroupId")) (λ id.
    and_then (id_of row path (codes "VpcId")) (λ vpc.
    and_then (each_item permission_of row path (codes "IpPermissions")) (λ inward.
    and_then (each_item permission_of row path (codes "IpPermissionsEgress")) (λ outward.
    Ok (record { id = id; vpc = vpc; inward = inward; outward = outward })))))
