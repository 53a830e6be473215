-- How a cut tree grows. Public clauses don't cite it: they say what the tree is.
use Rattle.std.proofs.Common.{inl, inr}
use Rattle.std.specs.Prelude.{ℕ, ◌≡◌, ◌+◌, ◌⊎◌, List, [], ◌∷◌, ◌++◌, All, AllPairs, Contains, length, reverse, sum_by}
use Rattle.vpc_base.specs.Header.{IsBefore}
use Rattle.header_boxes.specs.Boxes.{IsWithin, low_of}
use Rattle.header_boxes.specs.declared.boxes.Box5.{Box5}
use Rattle.header_boxes.specs.declared.rows.Row.{Row}
use Rattle.ordered_cover.specs.Beside.{beside}
use Rattle.ordered_cover.specs.Joined.{AreJoined, GoesOn}
use Rattle.ordered_cover.specs.Kept.{IsOneWithLast}
use Rattle.ordered_cover.specs.Trees.{IsCutTree, leaves_of, leaves_over, stand_for}
use Rattle.ordered_cover.specs.declared.trees.Node.{Node}

-- the rows, in the order of the tree, and its open boxes. Of a row the box that was asked is told too
abbrev pub rows_in : {W : Type 0} → List ((Row W × Box5) ⊎ Box5) → List (Row W)
rows_in [] = []
rows_in (inl asked ∷ growth) = asked.0 ∷ rows_in growth
rows_in (inr b ∷ growth) = rows_in growth

abbrev pub open_in : {W : Type 0} → List ((Row W × Box5) ⊎ Box5) → List Box5
open_in [] = []
open_in (inl asked ∷ growth) = open_in growth
open_in (inr b ∷ growth) = b ∷ open_in growth

-- boxes that are open
abbrev pub all_open : {W : Type 0} → List Box5 → List ((Row W × Box5) ⊎ Box5)
all_open [] = []
all_open (b ∷ boxes) = inr b ∷ all_open boxes

-- a row begins where its box begins
pub record Begins {W : Type 0} (row : Row W) (whole b : Box5) : Type 0 where
  pub same : whole ≡ b
  pub within : IsWithin row.part whole
  pub low : low_of row.part ≡ low_of whole

-- the boxes, each in its turn, are cut into rows and open boxes: an open box is a whole one; what is left beside a row comes next
abbrev pub IsGrowthOf : {W : Type 0} → List ((Row W × Box5) ⊎ Box5) → List Box5 → Type 0
IsGrowthOf [] [] = Unit {0}
IsGrowthOf [] (b ∷ boxes) = ⊥
IsGrowthOf (x ∷ growth) [] = ⊥
IsGrowthOf (inl asked ∷ growth) (b ∷ boxes) = Begins asked.0 asked.1 b × IsGrowthOf growth (reverse (beside asked.1 asked.0.part) ++ boxes)
IsGrowthOf (inr whole ∷ growth) (b ∷ boxes) = (whole ≡ b) × IsGrowthOf growth boxes

-- the last row was added last: what is left beside it is open
pub record IsLatest {W : Type 0} (sides : Box5) (growth : List ((Row W × Box5) ⊎ Box5)) (rows : List (Row W)) : Type 0 where
  pub before : List (Row W)
  pub last : Row W
  pub ended : rows ≡ before ++ last ∷ []
  pub whole : Box5
  pub first : List ((Row W × Box5) ⊎ Box5)
  pub later : List ((Row W × Box5) ⊎ Box5)
  pub stands : growth ≡ first ++ (inl (last, whole) ∷ (all_open (reverse (beside whole last.part)) ++ later))
  pub begins : Begins last whole whole
  pub ends : whole.q.1 ≡ sides.q.1
  pub kept : All (Contains before) (rows_in first ++ rows_in later)
  pub count : length (rows_in first ++ rows_in later) ≡ length before

-- a tree of the sides grows: what is open in it are these boxes, and its rows are these
pub record IsGrowing {W : Type 0} (sides : Box5) (boxes : List Box5) (rows : List (Row W)) : Type 0 where
  pub growth : List ((Row W × Box5) ⊎ Box5)
  pub cut : IsGrowthOf growth (sides ∷ [])
  pub still_open : (f : Box5 → ℕ) → sum_by f boxes ≡ sum_by f (open_in growth)
  pub ends : All (λ b. b.q.1 ≡ sides.q.1) boxes
  pub latest : ((rows ≡ []) × (rows_in growth ≡ [])) ⊎ IsLatest sides growth rows

-- a row was added, or made one with the last one
pub data IsAdded {W : Type 0} (old : List (Row W)) (row : Row W) (new : List (Row W)) : Type 0 where
  apart : (AreJoined GoesOn old → AreJoined GoesOn (old ++ row ∷ [])) → new ≡ old ++ row ∷ [] → IsAdded old row new
  joined : (wider : Row W) → (one : IsOneWithLast GoesOn old row wider) → new ≡ one.before ++ wider ∷ [] → IsAdded old row new

-- rows that ascend by their low corners make a tree
pub record MakeTree {W : Type 0} (sides : Box5) (rows : List (Row W)) : Type 0 where
  pub growing : IsGrowing sides [] rows
  pub ascending : AllPairs (λ a b. IsBefore (low_of a.part) (low_of b.part)) rows

-- a row begins where the box begins
pub record SomeBeginsAt {W : Type 0} (rows : List (Row W)) (b : Box5) : Type 0 where
  pub row : Row W
  pub among : Contains rows row
  pub begins : low_of row.part ≡ low_of b

-- nodes that go on with some boxes, after some leaves: what follows stands for these
pub record IsBegun {W : Type 0} (sides : Box5) (rows : List (Row W)) (nodes : List (Node W)) (boxes : List Box5) : Type 0 where
  pub growth : List ((Row W × Box5) ⊎ Box5)
  pub cut : IsGrowthOf growth boxes
  pub closed : open_in growth ≡ []
  pub kept : All (Contains rows) (rows_in growth)
  pub leaves : List (Row W)
  pub leaves_kept : All (Contains rows) leaves
  pub count : length leaves + length (rows_in growth) ≡ length rows
  pub stands : (later : List (Node W)) → stand_for (nodes ++ later) (sides ∷ []) ≡ stand_for later boxes
  pub gives : (later : List (Node W)) → leaves_over (nodes ++ later) (sides ∷ []) ≡ leaves ++ leaves_over later boxes

-- a cut tree of the sides whose leaves are among the rows, and no more than these
pub record IsTreeOf {W : Type 0} (sides : Box5) (rows : List (Row W)) (nodes : List (Node W)) : Type 0 where
  pub tree : IsCutTree nodes sides
  pub kept : All (Contains rows) (leaves_of nodes sides)
  pub count : length (leaves_of nodes sides) ≡ length rows
