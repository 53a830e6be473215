-- How a box is cut down to a part that begins where it begins: one side after the other. Public clauses don't cite it: they say
-- what the boxes hold.
use Rattle.std.specs.Prelude.{◌+◌, nat_lt, List, [], ◌∷◌, ◌++◌, if◌then◌else◌}
use Rattle.box_images.specs.Fields.{side_of}
use Rattle.box_images.specs.declared.fields.Side.{Side}
use Rattle.box_images.specs.declared.fields.Side.TheVariants.{Proto, Src, Dst, P, Q}
use Rattle.header_boxes.specs.declared.boxes.Box5.{Box5}
use Rattle.ordered_cover.specs.Trees.{with_side}
use Rattle.ordered_cover.specs.declared.trees.Node.{Node}
use Rattle.ordered_cover.specs.declared.trees.Node.TheVariants.{Cut}

-- the whole with the one side after that of the part, where there is something
abbrev pub after_side : Box5 → Box5 → Side → List Box5
after_side w c s = if nat_lt (side_of c s).1 (side_of w s).1 then with_side w s ((side_of c s).1 + 1, (side_of w s).1) ∷ [] else []

-- the cut that parts it from what lies before
abbrev pub cut_after : {W : Type 0} → Box5 → Box5 → Side → List (Node W)
cut_after w c s = if nat_lt (side_of c s).1 (side_of w s).1 then Cut s ((side_of c s).1 + 1) ∷ [] else []

-- what is left beside the part, where one side after the other is cut down to that of the part
abbrev pub beside_by : List Side → Box5 → Box5 → List Box5
beside_by [] w c = []
beside_by (s ∷ sides) w c = after_side w c s ++ beside_by sides (with_side w s (side_of c s)) c

-- the cuts
abbrev pub cuts_by : {W : Type 0} → List Side → Box5 → Box5 → List (Node W)
cuts_by [] w c = []
cuts_by (s ∷ sides) w c = cut_after w c s ++ cuts_by sides (with_side w s (side_of c s)) c

-- what becomes of the box
abbrev pub cut_down : List Side → Box5 → Box5 → Box5
cut_down [] w c = w
cut_down (s ∷ sides) w c = cut_down sides (with_side w s (side_of c s)) c

-- by all sides
abbrev pub all_sides : List Side
all_sides = Proto ∷ (Src ∷ (Dst ∷ (P ∷ (Q ∷ []))))

abbrev pub beside : Box5 → Box5 → List Box5
beside w c = beside_by all_sides w c

abbrev pub cuts_beside : {W : Type 0} → Box5 → Box5 → List (Node W)
cuts_beside w c = cuts_by all_sides w c
