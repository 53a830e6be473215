-- Laws of pieces, on which look-ups in them rest.
use Rattle.std.specs.Prelude.{ℕ, ◌≡◌, ◌≤◌, ◌<◌, ◌+◌, ◌-◌, ◌*◌, ◌^◌, nat_le, length, Option, if◌then◌else◌}
use Rattle.vpc_base.specs.Cuts.{IsSideAligned}
use Rattle.piece_table.specs.Pieces.{PieceLists, ArePieces, LiesIn, first_of, last_of, told_of, number_at, first_at, last_at, told_at, one_piece, with_piece}

-- each address lies in a piece
abbrev pub EachLiesInItsPiece : Type 0
EachLiesInItsPiece = (p : PieceLists) (x : ℕ) → ArePieces p → x < 2 ^ 32 → LiesIn p (number_at p x) x

-- and in no other
abbrev pub LiesInNoOther : Type 0
LiesInNoOther = (p : PieceLists) (k x : ℕ) → ArePieces p → LiesIn p k x → number_at p x ≡ k

-- what a piece tells is told of each of its addresses
abbrev pub PieceTellsOfItsAddresses : Type 0
PieceTellsOfItsAddresses =
    (p : PieceLists) (k x : ℕ) → ArePieces p → LiesIn p k x → told_at p x ≡ told_of p k

-- the addresses of the piece that holds x lie in no other
abbrev pub FoundPieceIsOne : Type 0
FoundPieceIsOne =
    (p : PieceLists) (x y : ℕ) → ArePieces p → x < 2 ^ 32 → first_at p x ≤ y → y ≤ last_at p x
    → number_at p y ≡ number_at p x

-- and have one value told of them
abbrev pub FoundPieceTellsOneValue : Type 0
FoundPieceTellsOneValue =
    (p : PieceLists) (x y : ℕ) → ArePieces p → x < 2 ^ 32 → first_at p x ≤ y → y ≤ last_at p x
    → told_at p y ≡ told_at p x

-- each piece holds its first and its last address, and ends below 2^32
abbrev pub NoPieceIsEmpty : Type 0
NoPieceIsEmpty =
    (p : PieceLists) (k : ℕ) → ArePieces p → k < length p.firsts
    → (first_of p k ≤ last_of p k) × (last_of p k < 2 ^ 32)

-- a piece begins right after the one before it
abbrev pub NoGapIsLeft : Type 0
NoGapIsLeft =
    (p : PieceLists) (k : ℕ) → ArePieces p → k + 1 < length p.firsts
    → first_of p (k + 1) ≡ last_of p k + 1

-- the last piece ends at the greatest address
abbrev pub LastPieceEndsTheLine : Type 0
LastPieceEndsTheLine =
    (p : PieceLists) → ArePieces p → last_of p (length p.firsts - 1) ≡ 2 ^ 32 - 1

-- the piece that holds x begins at a first, and ends before one or at the greatest address
abbrev pub FoundPieceIsAligned : Type 0
FoundPieceIsAligned =
    (p : PieceLists) (x : ℕ) → ArePieces p → x < 2 ^ 32
    → IsSideAligned p.firsts (first_at p x, last_at p x) (0, 2 ^ 32 - 1)

-- a piece of all addresses
abbrev pub OnePieceTells : Type 0
OnePieceTells =
    (x : ℕ) (t : Option ℕ) → ArePieces (one_piece t) × (told_at (one_piece t) x ≡ t)

-- a piece after the last one leaves pieces
abbrev pub OneMoreLeavesPieces : Type 0
OneMoreLeavesPieces =
    (p : PieceLists) (first : ℕ) (t : Option ℕ) → ArePieces p
    → first_of p (length p.firsts - 1) < first → first < 2 ^ 32 → ArePieces (with_piece p first t)

-- it tells of the addresses from its first on, and of the others is told what was
abbrev pub OneMoreTells : Type 0
OneMoreTells =
    (p : PieceLists) (first x : ℕ) (t : Option ℕ) → ArePieces p
    → first_of p (length p.firsts - 1) < first
    → told_at (with_piece p first t) x ≡ (if nat_le first x then t else told_at p x)

-- a search among few pieces takes few steps
abbrev pub FewPiecesFewSteps : Type 0
FewPiecesFewSteps =
    (count s most : ℕ) → 2 ^ s ≤ 4 * count → 4 * count < 2 ^ (most + 1) → s ≤ most
