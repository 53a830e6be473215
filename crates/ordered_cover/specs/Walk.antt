-- How the boxes that nodes stand for are walked through.
use Rattle.std.specs.Prelude.{ℕ, ◌≡◌, ◌≤◌, true, List, [], ◌∷◌}
use Rattle.box_images.specs.Fields.{greatest_on, side_of}
use Rattle.box_images.specs.declared.fields.Side.{Side}
use Rattle.header_boxes.specs.declared.boxes.Box5.{Box5}
use Rattle.ordered_cover.specs.Trees.{divides, part_below, part_from, with_side}
use Rattle.ordered_cover.specs.declared.walk.CutOff.{CutOff}
use Rattle.ordered_cover.specs.declared.walk.CutOff.TheVariants.{Later, Begun}

-- the numbers are numbers of their side
abbrev pub CutFits : CutOff → Type 0
CutFits (Later s c last) = (c ≤ greatest_on s) × (last ≤ greatest_on s)
CutFits (Begun s first) = first ≤ greatest_on s

-- the boxes that come after this one, by what was cut off, the latest first: a part that comes later has the sides of the box but for its own, and after it the side is whole again
abbrev pub later_boxes : Box5 → List CutOff → List Box5
later_boxes b [] = []
later_boxes b (Later s c last ∷ cuts) = with_side b s (c, last) ∷ later_boxes (with_side b s ((side_of b s).0, last)) cuts
later_boxes b (Begun s first ∷ cuts) = later_boxes (with_side b s (first, (side_of b s).1)) cuts

-- the number divides the side of the first box
abbrev pub CanBeCut : Side → ℕ → List Box5 → Type 0
CanBeCut s c [] = ⊥
CanBeCut s c (b ∷ boxes) = divides c (side_of b s) ≡ true

-- the two parts of the first box come in its place
abbrev pub IsCutAt : Side → ℕ → List Box5 → List Box5 → Type 0
IsCutAt s c [] new = ⊥
IsCutAt s c (b ∷ boxes) new = new ≡ part_below b s c ∷ (part_from b s c ∷ boxes)

-- what is left without the first box
abbrev pub IsLeft : List Box5 → List Box5 → Type 0
IsLeft [] new = new ≡ []
IsLeft (b ∷ boxes) new = new ≡ boxes
