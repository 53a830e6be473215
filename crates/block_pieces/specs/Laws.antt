-- Laws of what blocks tell.
use Rattle.std.specs.Prelude.{◌≡◌, ◌≤◌, ◌<◌, ◌⊎◌, Contains, List, None, Some, false, true, ℕ}
use Rattle.prefix_text.specs.Block.{Block, IsBlock, holds, last_of}
use Rattle.block_pieces.specs.declared.rows.BlockRow.{BlockRow}
use Rattle.block_pieces.specs.Told.{told_by}

-- the first is no worse: its rank is smaller, or they are equal and its number isn't greater
abbrev pub IsAsGood : BlockRow → BlockRow → Type 0
IsAsGood x y = (x.rank < y.rank) ⊎ ((x.rank ≡ y.rank) × (x.row ≤ y.row))

-- a block that holds the address and is as good as every other one that does is told
abbrev pub BestIsTold : Type 0
BestIsTold =
    (rows : List BlockRow) (a : ℕ) (best : BlockRow) → Contains rows best → holds a best.block ≡ true
    → ((r : BlockRow) → Contains rows r → holds a r.block ≡ true → IsAsGood best r)
    → told_by rows a ≡ Some best.row

-- and nothing where none holds it
abbrev pub NoneIsTold : Type 0
NoneIsTold =
    (rows : List BlockRow) (a : ℕ) → ((r : BlockRow) → Contains rows r → holds a r.block ≡ false)
    → told_by rows a ≡ None

-- a block that holds the address, tells the number, and is as good as every other one that holds it
pub record IsToldBest (rows : List BlockRow) (a k : ℕ) : Type 0 where
  pub row : BlockRow
  pub listed : Contains rows row
  pub here : holds a row.block ≡ true
  pub number : row.row ≡ k
  pub best : (r : BlockRow) → Contains rows r → holds a r.block ≡ true → IsAsGood row r

-- what is told comes from such a block
abbrev pub ToldIsBest : Type 0
ToldIsBest = (rows : List BlockRow) (a k : ℕ) → told_by rows a ≡ Some k → IsToldBest rows a k

-- and nothing is told only where none holds the address
abbrev pub UntoldIsUnheld : Type 0
UntoldIsUnheld =
    (rows : List BlockRow) (a : ℕ) → told_by rows a ≡ None
    → (r : BlockRow) → Contains rows r → holds a r.block ≡ false

-- of two blocks that share an address, the one that is as long or longer ends no later, and begins no
-- earlier
abbrev pub BlocksAreNested : Type 0
BlocksAreNested =
    (b c : Block) (a : ℕ) → IsBlock b → IsBlock c → holds a b ≡ true → holds a c ≡ true
    → b.length ≤ c.length → (b.first ≤ c.first) × (last_of c ≤ last_of b)
