-- A walk over the addresses from 0 on, and the blocks around each.
use Rattle.std.specs.Prelude.{◌==◌, ◌&&◌, ◌||◌, ◌≡◌, ◌≤◌, ◌<◌, ◌+◌, ◌-◌, ◌*◌, ◌∷◌, ◌++◌, ◌^◌, [], All, Bool, Contains, List, None, Option, Some, false, filter, fold, if◌then◌else◌, length, nat_le, nat_lt, option_map, slice_get, slice_index_or, take, true, unwrap_or, ℕ}
use Rattle.std.specs.List.{flat_map}
use Rattle.std.specs.List.Sorted.{IsNonDecreasingBy}
use Rattle.prefix_text.specs.Block.{Block, IsBlock, holds, last_of}
use Rattle.vpc_model.specs.Cuts.{block_cuts}
use Rattle.block_pieces.specs.declared.rows.BlockRow.{BlockRow}
use Rattle.block_pieces.specs.declared.sweep.Open.{Open}
use Rattle.block_pieces.specs.declared.sweep.Sweep.{Sweep}
use Rattle.block_pieces.specs.declared.sweep.Tells.{Tells}
use Rattle.block_pieces.specs.Laws.{IsAsGood}

-- by the first address, then by the length, which is below 64
abbrev pub order_of : Block → ℕ
order_of b = b.first * 64 + b.length

-- blocks in the order of a walk
pub record AreInOrder (rows : List BlockRow) : Type 0 where
  pub order : IsNonDecreasingBy (λ r. order_of r.block) rows
  pub blocks : All (λ r. IsBlock r.block) rows

-- what a block tells, and its rank
abbrev pub tells : BlockRow → Tells
tells r = record { rank = r.rank; row = r.row }

-- the second where it is better than the first
abbrev pub better_of : Option Tells → Tells → Tells
better_of None t = t
better_of (Some o) t = if nat_lt t.rank o.rank || (t.rank == o.rank && nat_lt t.row o.row) then t else o

-- what the last of the open blocks that reaches an address tells
abbrev pub open_best : List Open → ℕ → Option Tells
open_best around a = fold (λ told o. if nat_le a o.last then Some o.best else told) None around

-- what the last of them tells
abbrev pub top_best : List Open → Option Tells
top_best around = option_map (λ o. o.best) (slice_get around (length around - 1))

-- there is a last one, and it ends before the address
abbrev pub ends_before : List Open → ℕ → Bool
ends_before around a = unwrap_or (option_map (λ o. nat_lt o.last a) (slice_get around (length around - 1))) false

-- the last of them, if any, reaches the address
abbrev pub Reaches : ℕ → List Open → Type 0
Reaches a around = (d : Open) → 0 < length around → a ≤ (slice_index_or around (length around - 1) d).last

-- no better block holds the address, and one that is as good does
pub record IsTold (rows : List BlockRow) (a : ℕ) (t : Tells) : Type 0 where
  pub row : BlockRow
  pub listed : Contains rows row
  pub here : holds a row.block ≡ true
  pub told : tells row ≡ t
  pub best : (r : BlockRow) → Contains rows r → holds a r.block ≡ true → IsAsGood row r

-- the best that is told of an address, or none where no block holds it
abbrev pub IsBest : List BlockRow → ℕ → Option Tells → Type 0
IsBest rows a None = (r : BlockRow) → Contains rows r → holds a r.block ≡ false
IsBest rows a (Some t) = IsTold rows a t

-- an open block is one that comes before the rows from a number on
pub record ComesBefore (rows : List BlockRow) (next : ℕ) (o : Open) : Type 0 where
  pub block : Block
  pub is : IsBlock block
  pub last : o.last ≡ last_of block
  pub before : (k : ℕ) (d : BlockRow) → next ≤ k → k < length rows → order_of block ≤ order_of (slice_index_or rows k d).block

-- the open blocks tell, of every address from the walk's on, what the rows before the next one do
pub record IsSwept (rows : List BlockRow) (s : Sweep) : Type 0 where
  pub within : s.next ≤ length rows
  pub told : (a : ℕ) → s.at ≤ a → IsBest (take s.next rows) a (open_best s.around.items a)
  pub own : All (ComesBefore rows s.next) s.around.items
  pub later : (k : ℕ) (d : BlockRow) → s.next ≤ k → k < length rows → s.at ≤ (slice_index_or rows k d).block.first

-- one more row is walked
pub record HasOpened (rows : List BlockRow) (old new : Sweep) : Type 0 where
  pub swept : IsSwept rows new
  pub next : new.next ≡ old.next + 1
  pub at : (d : BlockRow) → new.at ≡ (slice_index_or rows old.next d).block.first

-- the rows from a number on begin after an address
abbrev pub StartsAfter : List BlockRow → ℕ → ℕ → Type 0
StartsAfter rows next a = (k : ℕ) (d : BlockRow) → next ≤ k → k < length rows → a < (slice_index_or rows k d).block.first

-- where a block begins and has ended, as far as there are addresses
abbrev pub inner_borders : Block → List ℕ
inner_borders b = filter (λ c. nat_lt c (2 ^ 32)) (block_cuts b)

-- where blocks begin and have ended, as far as there are addresses
abbrev pub within_line : List BlockRow → List ℕ
within_line rows = flat_map (λ r. inner_borders r.block) rows
