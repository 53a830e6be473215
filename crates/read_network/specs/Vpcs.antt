-- What the rows of Vpcs mean (EC2 API, DescribeVpcs).
use Rattle.std.specs.Prelude.{ℕ, ◌∷◌, ◌==◌, ◌&&◌, Bool, true, List, Option, Some, None, Result, Ok, bytes_eq, codes, if◌then◌else◌}
use Rattle.serde_json.specs.Data.{Data}
use Rattle.json_fields.specs.FieldFault.{and_then}
use Rattle.json_fields.specs.Fields.{id_of, needed, prefix_of_field, text_of, within_part}
use Rattle.json_fields.specs.Kept.{each_kept_item, firsts_by}
use Rattle.json_fields.specs.declared.fault.FieldFault.{FieldFault}
use Rattle.prefix_text.specs.Block.{Block}
use Rattle.read_network.specs.Access.{access_at}
use Rattle.vpc_model.specs.declared.rows.Vpc.{Vpc}

-- whether a block with this state belongs to the VPC
abbrev pub is_associated : Option (List ℕ) → Bool
is_associated None = true
is_associated (Some state) = bytes_eq state (codes "associated")

-- a block of the VPC's association set, where it is associated
abbrev pub associated_block : Data → List ℕ → Result (Option Block) FieldFault
associated_block row path =
    and_then (needed prefix_of_field row path (codes "CidrBlock")) (λ block.
    and_then (within_part text_of row path (codes "CidrBlockState") (codes "State")) (λ state.
    Ok (if is_associated state then Some block else None)))

-- the two blocks are one
abbrev pub same_block : Block → Block → Bool
same_block a b = (a.first == b.first) && (a.length == b.length)

-- each block once, where it stands first
abbrev pub each_once : List Block → List Block
each_once = firsts_by same_block (λ b. b)

-- a VPC with its first block and the associated ones, each once, and its mode
abbrev pub vpc_of : Data → List ℕ → Result Vpc FieldFault
vpc_of row path =
    and_then (id_of row path (codes "VpcId")) (λ id.
    and_then (needed prefix_of_field row path (codes "CidrBlock")) (λ block.
    and_then (each_kept_item associated_block row path (codes "CidrBlockAssociationSet")) (λ others.
    and_then (access_at row path) (λ access.
    Ok (record { id = id; blocks = each_once (block ∷ others); access = access })))))
