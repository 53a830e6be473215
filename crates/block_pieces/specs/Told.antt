-- What blocks tell of an address: the number of the best one that holds it.
use Rattle.std.specs.Prelude.{◌==◌, ◌&&◌, ◌||◌, Bool, List, Option, nat_lt, option_map, ℕ}
use Rattle.std.specs.List.{flat_map}
use Rattle.prefix_text.specs.Block.{holds}
use Rattle.vpc_model.specs.Choice.{chosen}
use Rattle.vpc_model.specs.Cuts.{block_cuts}
use Rattle.block_pieces.specs.declared.rows.BlockRow.{BlockRow}

-- a smaller rank is better, and of equal ranks the smaller number
abbrev pub is_better : BlockRow → BlockRow → Bool
is_better x y = nat_lt x.rank y.rank || (x.rank == y.rank && nat_lt x.row y.row)

-- the number of the block that no better one beats, of those that hold the address
abbrev pub told_by : List BlockRow → ℕ → Option ℕ
told_by rows a = option_map (λ r. r.row) (chosen (λ r. holds a r.block) is_better rows)

-- where blocks begin, and where they have ended
abbrev pub borders_of : List BlockRow → List ℕ
borders_of rows = flat_map (λ r. block_cuts r.block) rows
