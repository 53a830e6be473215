-- Pieces of the addresses from 0 to 2^32 - 1: where each begins, and what it tells of all its addresses.
use Rattle.std.specs.Prelude.{ℕ, ◌≡◌, ◌≤◌, ◌<◌, ◌+◌, ◌-◌, ◌^◌, nat_le, List, [], ◌∷◌, ◌++◌, length, slice_index, slice_index_or, count_by, All, Option, None}
use Rattle.std.specs.List.Sorted.{IsStrictlyIncreasing}

-- the first address of each piece, and what each tells
pub record PieceLists : Type 0 where
  pub firsts : List ℕ
  pub told : List (Option ℕ)

-- there is a piece, the first begins at 0, each begins after the one before it, and each tells something
pub record ArePieces (p : PieceLists) : Type 0 where
  pub paired : length p.told ≡ length p.firsts
  pub some : 0 < length p.firsts
  pub zero : slice_index p.firsts 0 ≡ 0
  pub ascending : IsStrictlyIncreasing p.firsts
  pub fit : All (λ f. f < 2 ^ 32) p.firsts

-- where a piece begins
abbrev pub first_of : PieceLists → ℕ → ℕ
first_of p k = slice_index p.firsts k

-- where it ends: one before the next piece, or at the greatest address
abbrev pub last_of : PieceLists → ℕ → ℕ
last_of p k = slice_index_or p.firsts (k + 1) (2 ^ 32) - 1

-- what it tells
abbrev pub told_of : PieceLists → ℕ → Option ℕ
told_of p k = slice_index_or p.told k None

-- the number of the piece that holds an address: the last of those that begin at or before it
abbrev pub number_at : PieceLists → ℕ → ℕ
number_at p x = count_by (λ f. nat_le f x) p.firsts - 1

-- where the piece that holds an address begins
abbrev pub first_at : PieceLists → ℕ → ℕ
first_at p x = first_of p (number_at p x)

-- where it ends
abbrev pub last_at : PieceLists → ℕ → ℕ
last_at p x = last_of p (number_at p x)

-- what is told of an address
abbrev pub told_at : PieceLists → ℕ → Option ℕ
told_at p x = told_of p (number_at p x)

-- the address lies in the piece
pub record LiesIn (p : PieceLists) (k x : ℕ) : Type 0 where
  pub within : k < length p.firsts
  pub from : first_of p k ≤ x
  pub upto : x ≤ last_of p k

-- one piece of all addresses
abbrev pub one_piece : Option ℕ → PieceLists
one_piece t = record { firsts = 0 ∷ []; told = t ∷ [] }

-- the pieces, and one more after them
abbrev pub with_piece : PieceLists → ℕ → Option ℕ → PieceLists
with_piece p first t = record { firsts = p.firsts ++ first ∷ []; told = p.told ++ t ∷ [] }
