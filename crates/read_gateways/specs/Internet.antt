-- What the rows of InternetGateways mean (EC2 API, DescribeInternetGateways).
use Rattle.std.specs.Prelude.{ℕ, Bool, ◌||◌, List, Option, Some, None, bytes_eq, codes, Result, Ok, if◌then◌else◌}
use Rattle.serde_json.specs.Data.{Data}
use Rattle.json_fields.specs.FieldFault.{and_then}
use Rattle.json_fields.specs.Fields.{id_of, needed, text_of}
use Rattle.json_fields.specs.declared.fault.FieldFault.{FieldFault}
use Rattle.json_fields.specs.Kept.{each_kept_item}
use Rattle.vpc_model.specs.declared.rows.InternetGateway.{InternetGateway}

-- whether a gateway in this state serves the VPC (profile)
abbrev pub is_attached : List ℕ → Bool
is_attached state = bytes_eq state (codes "available") || bytes_eq state (codes "attached")

-- the VPC of an attachment that serves it
abbrev pub attached_vpc : Data → List ℕ → Result (Option (List ℕ)) FieldFault
attached_vpc row path =
    and_then (needed text_of row path (codes "State")) (λ state.
    and_then (id_of row path (codes "VpcId")) (λ vpc.
    Ok (if is_attached state then Some vpc else None)))

-- a gateway with the VPCs that it serves
abbrev pub internet_gateway_of : Data → List ℕ → Result InternetGateway FieldFault
internet_gateway_of row path =
    and_then (id_of row path (codes "InternetGatewayId")) (λ id.
    and_then (each_kept_item attached_vpc row path (codes "Attachments")) (λ vpcs.
    Ok (record { id = id; vpcs = vpcs })))
