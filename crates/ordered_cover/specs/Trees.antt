-- Cut trees: lists of nodes that cut a box into the boxes of their leaves.
use Rattle.std.specs.Prelude.{ℕ, ◌≡◌, ◌+◌, ◌-◌, ◌&&◌, Bool, true, false, nat_le, nat_lt, List, [], ◌∷◌}
use Rattle.box_images.specs.Fields.{side_of}
use Rattle.box_images.specs.declared.fields.Side.{Side}
use Rattle.box_images.specs.declared.fields.Side.TheVariants.{Proto, Src, Dst, P, Q}
use Rattle.header_boxes.specs.declared.boxes.Box5.{Box5}
use Rattle.header_boxes.specs.declared.rows.Row.{Row}
use Rattle.ordered_cover.specs.declared.trees.Node.{Node}
use Rattle.ordered_cover.specs.declared.trees.Node.TheVariants.{Cut, Leaf}

-- the box with another range on a side
abbrev pub with_side : Box5 → Side → ℕ × ℕ → Box5
with_side b Proto r = record b { proto = r }
with_side b Src r = record b { src = r }
with_side b Dst r = record b { dst = r }
with_side b P r = record b { p = r }
with_side b Q r = record b { q = r }

-- the part of a box that ends before a number of a side, and the part that begins at it
abbrev pub part_below : Box5 → Side → ℕ → Box5
part_below b s c = with_side b s ((side_of b s).0, c - 1)

abbrev pub part_from : Box5 → Side → ℕ → Box5
part_from b s c = with_side b s (c, (side_of b s).1)

-- a number divides a range: it lies above the low end, and is at most the high end
abbrev pub divides : ℕ → ℕ × ℕ → Bool
divides c r = nat_lt r.0 c && nat_le c r.1

-- the nodes stand for boxes, each in its turn: a leaf for a whole one; a cut for one that it divides, whose two parts come next, the lower one first
abbrev pub stand_for : {W : Type 0} → List (Node W) → List Box5 → Bool
stand_for [] [] = true
stand_for [] (b ∷ boxes) = false
stand_for (node ∷ nodes) [] = false
stand_for (Leaf w ∷ nodes) (b ∷ boxes) = stand_for nodes boxes
stand_for (Cut s c ∷ nodes) (b ∷ boxes) = divides c (side_of b s) && stand_for nodes (part_below b s c ∷ (part_from b s c ∷ boxes))

-- the leaves of these nodes with their boxes, in the order of the list
abbrev pub leaves_over : {W : Type 0} → List (Node W) → List Box5 → List (Row W)
leaves_over [] boxes = []
leaves_over (node ∷ nodes) [] = []
leaves_over (Leaf w ∷ nodes) (b ∷ boxes) = record { part = b; word = w } ∷ leaves_over nodes boxes
leaves_over (Cut s c ∷ nodes) (b ∷ boxes) = leaves_over nodes (part_below b s c ∷ (part_from b s c ∷ boxes))

-- the nodes are a cut tree of the box: they stand for it, and nothing is left over
abbrev pub IsCutTree : {W : Type 0} → List (Node W) → Box5 → Type 0
IsCutTree nodes box = stand_for nodes (box ∷ []) ≡ true

-- the leaves of a cut tree of the box, as rows in the order of the list
abbrev pub leaves_of : {W : Type 0} → List (Node W) → Box5 → List (Row W)
leaves_of nodes box = leaves_over nodes (box ∷ [])

-- how many of the nodes are leaves
abbrev pub leaf_count : {W : Type 0} → List (Node W) → ℕ
leaf_count [] = 0
leaf_count (Leaf w ∷ nodes) = leaf_count nodes + 1
leaf_count (Cut s c ∷ nodes) = leaf_count nodes
