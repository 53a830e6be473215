-- What the rows of VpcPeeringConnections mean (EC2 API, DescribeVpcPeeringConnections).
use Rattle.std.specs.Prelude.{ℕ, Bool, List, Option, Some, None, bytes_eq, codes, Result, Ok, if◌then◌else◌}
use Rattle.serde_json.specs.Data.{Data}
use Rattle.json_fields.specs.FieldFault.{and_then}
use Rattle.json_fields.specs.Fields.{id_of, needed, text_of, within_part}
use Rattle.json_fields.specs.declared.fault.FieldFault.{FieldFault}
use Rattle.vpc_model.specs.declared.rows.Peering.{Peering}

-- the VPC on a side
abbrev pub side_of : Data → List ℕ → List ℕ → Result (List ℕ) FieldFault
side_of row path side = within_part id_of row path side (codes "VpcId")

-- whether the peering is active
abbrev pub is_active_of : Data → List ℕ → Result Bool FieldFault
is_active_of row path =
    and_then (within_part (needed text_of) row path (codes "Status") (codes "Code")) (λ code.
    Ok (bytes_eq code (codes "active")))

-- the VPCs of an active peering: those of another aren't read
abbrev pub pair_if : Bool → Data → List ℕ → Result (Option (List ℕ × List ℕ)) FieldFault
pair_if active row path =
    if active then
    and_then (side_of row path (codes "RequesterVpcInfo")) (λ requester.
    and_then (side_of row path (codes "AccepterVpcInfo")) (λ accepter.
    Ok (Some (requester, accepter))))
    else Ok None

-- a peering, with the VPCs on its sides where it is active
abbrev pub peering_of : Data → List ℕ → Result Peering FieldFault
peering_of row path =
    and_then (id_of row path (codes "VpcPeeringConnectionId")) (λ id.
    and_then (is_active_of row path) (λ active.
    and_then (pair_if active row path) (λ pair.
    Ok (record { id = id; pair = pair }))))
