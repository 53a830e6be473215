-- Routes of a transit gateway as blocks that tell their numbers.
use Rattle.std.specs.Prelude.{◌∷◌, ◌≡◌, ◌≤◌, ◌<◌, ◌+◌, ◌-◌, ◌*◌, ◌^◌, [], List, if◌then◌else◌, length, ℕ}
use Rattle.block_pieces.specs.declared.rows.BlockRow.{BlockRow}
use Rattle.piece_table.specs.Pieces.{PieceLists, told_at}
use Rattle.vpc_laws.specs.Types.{TgwRoute}
use Rattle.vpc_model.specs.Cuts.{all_cuts, cuts_of_tgw_route, on_sides}
use Rattle.vpc_model.specs.Transit.{chosen_tgw_route}
use Rattle.cut_laws.specs.Dividing.{DivideFirsts}

-- the block of a route: the longest is the best, then that of a static route
abbrev pub row_of : ℕ → TgwRoute → BlockRow
row_of number r =
    record { block = r.block; rank = (32 - r.block.length) * 2 + (if r.propagated then 1 else 0); row = number }

-- the blocks of routes that are numbered from a number on
abbrev pub rows_of : ℕ → List TgwRoute → List BlockRow
rows_of number [] = []
rows_of number (r ∷ rs) = row_of number r ∷ rows_of (number + 1) rs

-- the pieces tell of each address which of the routes is chosen, there are few, and all but the first begin where the block
-- of a route begins or has ended
pub record IsRouteTable (routes : List TgwRoute) (p : PieceLists) : Type 0 where
  pub chosen : (a : ℕ) → a < 2 ^ 32 → told_at p a ≡ chosen_tgw_route routes a
  pub few : length p.firsts ≤ 2 * length routes + 1
  pub firsts : DivideFirsts p.firsts (on_sides (all_cuts cuts_of_tgw_route routes))
