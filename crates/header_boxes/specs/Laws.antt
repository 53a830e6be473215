-- What a search over boxes rests on.
use Rattle.std.specs.Prelude.{◌≡◌, ◌≤◌, ◌<◌, true, false}
use Rattle.vpc_base.specs.Cuts.{CutLists, AreAmong}
use Rattle.vpc_base.specs.Header.{IsBefore}
use Rattle.vpc_base.specs.declared.headers.Header.{Header}
use Rattle.header_boxes.specs.Boxes.{holds, low_of, volume_of, IsValid, IsWithin}
use Rattle.header_boxes.specs.Cells.{IsAligned, EndsAligned, cell_of, cells_of}
use Rattle.header_boxes.specs.Minus.{HasSidesOf}
use Rattle.header_boxes.specs.declared.boxes.Box5.{Box5}

-- no header of a box comes before its low corner
abbrev pub LowIsLeast : Type 0
LowIsLeast = (b : Box5) (h : Header) → holds h b ≡ true → IsBefore h (low_of b) → ⊥

-- a valid box holds its low corner
abbrev pub HoldsLow : Type 0
HoldsLow = (b : Box5) → IsValid b → holds (low_of b) b ≡ true

-- a valid box holds some header
abbrev pub VolumeIsPositive : Type 0
VolumeIsPositive = (b : Box5) → IsValid b → 1 ≤ volume_of b

-- a part's headers are its whole's
abbrev pub WithinHolds : Type 0
WithinHolds = (part whole : Box5) (h : Header) → IsWithin part whole → holds h part ≡ true → holds h whole ≡ true

-- where a part holds the whole's low corner, a box of the whole that begins outside the part comes after it
abbrev pub MinusLowAfter : Type 0
MinusLowAfter = (whole part b : Box5) → IsWithin b whole → holds (low_of whole) part ≡ true → holds (low_of b) part ≡ false → IsBefore (low_of part) (low_of b)

-- a box of the whole with the sides that a subtraction gives is aligned where the part is
abbrev pub MinusAligned : Type 0
MinusAligned = (cuts : CutLists) (whole part b : Box5) → IsAligned cuts part whole → IsWithin b whole → HasSidesOf whole part b → IsAligned cuts b whole

-- a part that is aligned to an aligned box is aligned
abbrev pub AlignedIsTransitive : Type 0
AlignedIsTransitive = (cuts : CutLists) (part middle whole : Box5) → IsAligned cuts part middle → IsAligned cuts middle whole → IsAligned cuts part whole

-- a part that begins where the whole does is aligned where its ends are
abbrev pub AlignedByEnds : Type 0
AlignedByEnds = (cuts : CutLists) (part whole : Box5) → low_of part ≡ low_of whole → EndsAligned cuts part whole → IsAligned cuts part whole

-- what is aligned to some cuts is aligned to more
abbrev pub AlignedGrows : Type 0
AlignedGrows = (fewer more : CutLists) (part whole : Box5) → AreAmong fewer more → IsAligned fewer part whole → IsAligned more part whole

-- an aligned part holds the whole cell of each of its headers
abbrev pub AlignedHoldsCells : Type 0
AlignedHoldsCells =
    (cuts : CutLists) (part whole : Box5) (g h : Header) → IsWithin part whole → IsAligned cuts part whole → holds g part ≡ true → holds h whole ≡ true
    → cell_of cuts whole h ≡ cell_of cuts whole g → holds h part ≡ true

-- the cells of a box are numbered from 0 on
abbrev pub CellsAreNumbered : Type 0
CellsAreNumbered = (cuts : CutLists) (b : Box5) (h : Header) → holds h b ≡ true → cell_of cuts b h < cells_of cuts b
