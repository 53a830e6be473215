-- What a peering carries (VPC Peering Guide, "VPC peering basics"; that both addresses must lie in the blocks of
-- their VPCs is this project's profile).
use Rattle.std.specs.List.{list_any}
use Rattle.std.specs.Prelude.{if◌then◌else◌, Bool, List, bytes_eq, ℕ}
use Rattle.vpc_model.specs.Types.{Description, VpcNo}
use Rattle.prefix_text.specs.Block.{holds}
use Rattle.vpc_model.specs.Lookup.{vpc_at}

-- a block of the VPC holds the address (VPC User Guide, "VPC CIDR blocks")
abbrev pub has_block : Description → VpcNo → ℕ → Bool
has_block d v a = let row = vpc_at d v in list_any (holds a) row.blocks

-- the id of the VPC at the other side; of a VPC that is peered with itself, its own (EC2 API, DescribeVpcPeeringConnections)
abbrev pub other_side : List ℕ → List ℕ × List ℕ → List ℕ
other_side vpc pair = if bytes_eq pair.0 vpc then pair.1 else pair.0
