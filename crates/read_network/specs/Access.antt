-- What the modes of Block Public Access mean (EC2 API, BlockPublicAccessStates).
use Rattle.std.specs.Prelude.{ℕ, List, Option, Some, None, Result, bytes_eq, codes, if◌then◌else◌}
use Rattle.serde_json.specs.Data.{Data}
use Rattle.json_fields.specs.Fields.{text_in, within_part}
use Rattle.json_fields.specs.declared.fault.FieldFault.{FieldFault}
use Rattle.vpc_model.specs.declared.rows.Access.{Access}
use Rattle.vpc_model.specs.declared.rows.Access.TheVariants as modes

-- the mode that the text names: one of the API's three words
abbrev pub access_named : List ℕ → Option Access
access_named text =
    if bytes_eq text (codes "off") then Some modes.Off
    else (if bytes_eq text (codes "block-ingress") then Some modes.BlockIngress
    else (if bytes_eq text (codes "block-bidirectional") then Some modes.BlockBidirectional else None))

-- the mode of a VPC or a subnet, if it is told
abbrev pub access_at : Data → List ℕ → Result (Option Access) FieldFault
access_at row path = within_part (text_in access_named) row path (codes "BlockPublicAccessStates") (codes "InternetGatewayBlockMode")
