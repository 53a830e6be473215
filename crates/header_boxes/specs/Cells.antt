-- Cells: the parts into which cuts divide the sides of a box.
use Rattle.std.specs.Prelude.{◌≡◌, ◌⊎◌, Contains, ℕ, ◌+◌, ◌*◌, ◌&&◌, nat_le, nat_lt, List, count_by}
use Rattle.std.specs.List.Sorted.{IsStrictlyIncreasing}
use Rattle.vpc_base.specs.Cuts.{CutLists, IsSideAligned}
use Rattle.vpc_base.specs.declared.headers.Header.{Header}
use Rattle.header_boxes.specs.declared.boxes.Box5.{Box5}

-- the cuts ascend and none stands twice
pub record AreAscending (cuts : CutLists) : Type 0 where
  pub proto : IsStrictlyIncreasing cuts.proto
  pub addr : IsStrictlyIncreasing cuts.addr
  pub p : IsStrictlyIncreasing cuts.p
  pub q : IsStrictlyIncreasing cuts.q

-- how many cuts lie above the first number of a range and not above x: the number, from 0, of the piece that holds x
abbrev pub piece_of : List ℕ → ℕ × ℕ → ℕ → ℕ
piece_of cuts r x = count_by (λ c. nat_lt r.0 c && nat_le c x) cuts

-- how many pieces the cuts make of a range
abbrev pub pieces_of : List ℕ → ℕ × ℕ → ℕ
pieces_of cuts r = piece_of cuts r r.1 + 1

-- how many cells the cuts make of a box
abbrev pub cells_of : CutLists → Box5 → ℕ
cells_of cuts b =
    pieces_of cuts.proto b.proto * (pieces_of cuts.addr b.src * (pieces_of cuts.addr b.dst * (pieces_of cuts.p b.p * pieces_of cuts.q b.q)))

-- the number, from 0, of the cell of the whole that holds the header
abbrev pub cell_of : CutLists → Box5 → Header → ℕ
cell_of cuts b h =
    (((piece_of cuts.proto b.proto h.proto * pieces_of cuts.addr b.src + piece_of cuts.addr b.src h.src)
    * pieces_of cuts.addr b.dst + piece_of cuts.addr b.dst h.dst)
    * pieces_of cuts.p b.p + piece_of cuts.p b.p h.p)
    * pieces_of cuts.q b.q + piece_of cuts.q b.q h.q

-- each side of the part is aligned to the cuts and that side of the whole
pub record IsAligned (cuts : CutLists) (part whole : Box5) : Type 0 where
  pub proto : IsSideAligned cuts.proto part.proto whole.proto
  pub src : IsSideAligned cuts.addr part.src whole.src
  pub dst : IsSideAligned cuts.addr part.dst whole.dst
  pub p : IsSideAligned cuts.p part.p whole.p
  pub q : IsSideAligned cuts.q part.q whole.q

-- each side of the part ends before a cut or where that side of the whole ends
pub record EndsAligned (cuts : CutLists) (part whole : Box5) : Type 0 where
  pub proto : (part.proto.1 ≡ whole.proto.1) ⊎ Contains cuts.proto (part.proto.1 + 1)
  pub src : (part.src.1 ≡ whole.src.1) ⊎ Contains cuts.addr (part.src.1 + 1)
  pub dst : (part.dst.1 ≡ whole.dst.1) ⊎ Contains cuts.addr (part.dst.1 + 1)
  pub p : (part.p.1 ≡ whole.p.1) ⊎ Contains cuts.p (part.p.1 + 1)
  pub q : (part.q.1 ≡ whole.q.1) ⊎ Contains cuts.q (part.q.1 + 1)
