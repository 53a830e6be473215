-- The blocks of networks that aren't described, by their numbers (EC2 API, DescribeVpcPeeringConnections).
use Rattle.std.specs.Prelude.{◌≡◌, Bool, List, [], slice_index_or, ℕ}
use Rattle.address_sets.specs.Runs.{is_in}
use Rattle.address_sets.specs.declared.sets.Run.{Run}
use Rattle.vpc_model.specs.declared.numbers.FarNo.{FarNo}
use Rattle.vpc_model.specs.declared.rows.Description.{Description}
use Rattle.vpc_model.specs.declared.rows.Far.{Far}
use Rattle.vpc_model.specs.Far.{blocks_beyond, is_within}

-- the set has the addresses of the blocks that are told of the network
abbrev pub HasBlocksBeyond : Description → Far → List Run → Type 0
HasBlocksBeyond d f set = (a : ℕ) → is_in a set ≡ is_within (blocks_beyond d f) a

-- a block that is told of the network with a number holds the address
abbrev pub has_beyond : List (List Run) → FarNo → ℕ → Bool
has_beyond beyond k a = is_in a (slice_index_or beyond k.0 [])
