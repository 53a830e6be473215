-- What look-ups over images rest on.
use Rattle.std.specs.Prelude.{ℕ, ◌≡◌, ◌+◌, ◌++◌, ◌↔◌, true, List}
use Rattle.vpc_base.specs.Cuts.{CutLists}
use Rattle.vpc_base.specs.Header.{IsHeader}
use Rattle.vpc_base.specs.declared.headers.Header.{Header}
use Rattle.header_boxes.specs.Boxes.{IsValid, IsWithin, holds, low_of}
use Rattle.header_boxes.specs.Cells.{IsAligned}
use Rattle.header_boxes.specs.declared.boxes.Box5.{Box5}
use Rattle.box_images.specs.Fields.{greatest_on}
use Rattle.box_images.specs.Images.{CanCompare, IsImageOfAnswer, IsImageOfOpen, IsValidImage, field_of, header_at}
use Rattle.box_images.specs.Bodies.{AreCutInside, Edges, EndsAtEdges, IsBody, IsCut, IsCutInside, range_edges}
use Rattle.box_images.specs.declared.fields.Side.{Side}
use Rattle.box_images.specs.declared.images.Image.{Image}

-- an image that is valid stands for headers
abbrev pub ImagesFit : Type 0
ImagesFit = (i : Image) (h : Header) → IsValidImage i → holds h i.part ≡ true → IsHeader (header_at i h)

-- images of opens over one part can be compared
abbrev pub OpensCompare : Type 0
OpensCompare =
    (addresses : List ℕ) (i j : Image) → i.part ≡ j.part → IsImageOfOpen addresses i → IsImageOfOpen addresses j
    → CanCompare i j

-- and so can images of answers
abbrev pub AnswersCompare : Type 0
AnswersCompare =
    (addresses : List ℕ) (i j : Image) → i.part ≡ j.part → IsImageOfAnswer addresses i → IsImageOfAnswer addresses j
    → CanCompare i j

-- the bodies of a part are the boxes within it that hold its low corner
abbrev pub BodiesHoldLow : Type 0
BodiesHoldLow = (body part : Box5) → IsValid part → IsBody body part ↔ (IsWithin body part × (holds (low_of part) body ≡ true))

-- a body of a body is a body
abbrev pub BodiesCompose : Type 0
BodiesCompose = (body middle part : Box5) → IsBody body middle → IsBody middle part → IsBody body part

-- and ends at the edges of both
abbrev pub EndsCompose : Type 0
EndsCompose =
    (few more : Edges) (body middle part : Box5) → EndsAtEdges more body middle → EndsAtEdges few middle part
    → EndsAtEdges (few ++ more) body part

-- a body that ends at edges is aligned where they are at cuts
abbrev pub BodiesAreAligned : Type 0
BodiesAreAligned =
    (cuts : CutLists) (edges : Edges) (body part : Box5) → IsBody body part → EndsAtEdges edges body part
    → AreCutInside cuts part edges → IsAligned cuts body part

-- a value of a valid image's field that is a cut is one inside the part
abbrev pub CutsAreInside : Type 0
CutsAreInside =
    (cuts : CutLists) (i : Image) (s : Side) (v : ℕ) → IsValidImage i
    → IsCut cuts (greatest_on s) (field_of i s) v → IsCutInside cuts i.part (field_of i s) v

-- a body on which it is told whether a field lies in a range is aligned where the range's first number, and the one past its last, are cuts
abbrev pub NarrowedAreAligned : Type 0
NarrowedAreAligned =
    (cuts : CutLists) (i : Image) (s : Side) (lo hi : ℕ) (body : Box5) → IsValidImage i
    → IsBody body i.part → EndsAtEdges (range_edges (field_of i s) lo hi) body i.part
    → IsCut cuts (greatest_on s) (field_of i s) lo → IsCut cuts (greatest_on s) (field_of i s) (hi + 1)
    → IsAligned cuts body i.part

-- what is aligned to a body that is aligned to the part is an aligned body of the part
abbrev pub AlignedBodiesCompose : Type 0
AlignedBodiesCompose =
    (cuts : CutLists) (body middle part : Box5) → IsBody body middle → IsAligned cuts body middle
    → IsBody middle part → IsAligned cuts middle part → IsBody body part × IsAligned cuts body part
