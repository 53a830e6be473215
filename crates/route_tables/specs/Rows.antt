-- Routes as blocks that tell their numbers.
use Rattle.std.specs.Prelude.{◌≡◌, ◌<◌, ◌≤◌, ◌∷◌, ◌++◌, ◌+◌, ◌-◌, ◌*◌, ◌^◌, ◌&&◌, [], All, Bool, List, false, filter, if◌then◌else◌, length, map, nat_le, not, option_map, unwrap_or, ℕ}
use Rattle.std.specs.List.{flat_map}
use Rattle.block_pieces.specs.declared.rows.BlockRow.{BlockRow}
use Rattle.piece_table.specs.Pieces.{PieceLists, told_at}
use Rattle.prefix_text.specs.Block.{Block, IsBlock}
use Rattle.route_tables.specs.Repeats.{given_once}
use Rattle.vpc_laws.specs.Types.{Description, Route}
use Rattle.vpc_model.specs.Cuts.{blocks_of_reach}
use Rattle.vpc_model.specs.Routes.{chosen_route, is_local, kind_of}

-- the blocks of routes and the entries of the prefix lists that they name, each route's apart
abbrev pub blocks_in : Description → List Route → List Block
blocks_in d routes = flat_map (λ r. blocks_of_reach d r.reach) routes

-- each of them is a block
abbrev pub AreBlocks : Description → List Route → Type 0
AreBlocks d routes = All (λ r. All IsBlock (blocks_of_reach d r.reach)) routes

-- a block that tells its length; the shortest is the best
abbrev pub length_row : Block → BlockRow
length_row b = record { block = b; rank = b.length; row = b.length }

-- the blocks of a local route
abbrev pub local_rows_of : Description → Route → List BlockRow
local_rows_of d r = if is_local r.target then map length_row (blocks_of_reach d r.reach) else []

-- the blocks of the local routes
abbrev pub local_rows : Description → List Route → List BlockRow
local_rows d routes = flat_map (local_rows_of d) routes

-- a block that tells the number of its route: the longest is the best, then the least kind
abbrev pub row_of : ℕ → ℕ → Block → BlockRow
row_of kind number b = record { block = b; rank = (32 - b.length) * 4 + kind; row = number }

-- a local block that is as long or shorter holds the first address, so it holds the whole block
abbrev pub is_covered : PieceLists → Block → Bool
is_covered locals b = unwrap_or (option_map (λ l. nat_le l b.length) (told_at locals b.first)) false

-- the blocks of a route, without those of a propagated one that local blocks hold
abbrev pub counted_rows_of : Description → PieceLists → ℕ → Route → List BlockRow
counted_rows_of d locals number r =
    let rows = map (row_of (kind_of r) number) (blocks_of_reach d r.reach) in
    if r.propagated && not (is_local r.target) then filter (λ x. not (is_covered locals x.block)) rows else rows

-- the blocks of routes, numbered from a number on, without those of propagated ones that local blocks hold
abbrev pub counted_rows : Description → PieceLists → ℕ → List Route → List BlockRow
counted_rows d locals number [] = []
counted_rows d locals number (r ∷ rs) = counted_rows_of d locals number r ++ counted_rows d locals (number + 1) rs

-- ---- without repeats

-- the blocks of the local routes, without those that repeat earlier routes
abbrev pub local_rows_once : Description → List Route → List BlockRow
local_rows_once d routes = given_once (λ _ r. local_rows_of d r) [] routes

-- the blocks of routes without those that repeat earlier ones, and of propagated ones without those that local blocks hold
abbrev pub counted_rows_once : Description → PieceLists → List Route → List BlockRow
counted_rows_once d locals routes = given_once (counted_rows_of d locals) [] routes

-- ---- what is told of addresses

-- the pieces tell of each address the route that is chosen for it
abbrev pub ChooseRoutes : Description → List Route → PieceLists → Type 0
ChooseRoutes d routes x = (a : ℕ) → a < 2 ^ 32 → told_at x a ≡ chosen_route d routes a

-- there are at most twice as many as blocks, and one more
abbrev pub AreFewPieces : Description → List Route → PieceLists → Type 0
AreFewPieces d routes x = length x.firsts ≤ 2 * length (blocks_in d routes) + 1
