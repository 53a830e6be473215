-- What the leaves of a cut tree are.
use Rattle.std.specs.Prelude.{◌≡◌, List, Option, All, AllPairs, length}
use Rattle.vpc_base.specs.declared.headers.Header.{Header}
use Rattle.header_boxes.specs.Boxes.{AreDisjoint, IsValid, IsWithin, holds}
use Rattle.header_boxes.specs.Rows.{AreWhole, HasWord, IsTrueReport}
use Rattle.header_boxes.specs.declared.boxes.Box5.{Box5}
use Rattle.ordered_cover.specs.Open.{one_if, row_holders}
use Rattle.ordered_cover.specs.Trees.{IsCutTree, leaf_count, leaves_of}
use Rattle.ordered_cover.specs.declared.trees.Node.{Node}

-- each box is valid, and lies in that of the tree
abbrev pub LeavesLieWithin : Type 0 → Type 0
LeavesLieWithin W = (nodes : List (Node W)) (box : Box5) → IsCutTree nodes box → IsValid box → All (λ leaf. IsWithin leaf.part box) (leaves_of nodes box)

-- they hold each header of the tree's box once, and no other one
abbrev pub LeavesHoldOnce : Type 0 → Type 0
LeavesHoldOnce W = (nodes : List (Node W)) (box : Box5) (h : Header) → IsCutTree nodes box → row_holders (leaves_of nodes box) h ≡ one_if (holds h box)

-- so no two of them share a header
abbrev pub LeavesAreApart : Type 0 → Type 0
LeavesAreApart W = (nodes : List (Node W)) (box : Box5) → IsCutTree nodes box → AllPairs (λ a b. AreDisjoint a.part b.part) (leaves_of nodes box)

-- and every header of the tree's box is in one
abbrev pub LeavesAreWhole : Type 0 → Type 0
LeavesAreWhole W = (nodes : List (Node W)) (box : Box5) → IsCutTree nodes box → AreWhole box (leaves_of nodes box)

-- they are as many as are counted
abbrev pub LeavesAreCounted : Type 0 → Type 0
LeavesAreCounted W = (nodes : List (Node W)) (box : Box5) → IsCutTree nodes box → length (leaves_of nodes box) ≡ leaf_count nodes

-- where each has the word of all its headers, they are a true report: disjoint boxes that hold all headers
abbrev pub TreesAreReports : Type 0 → Type 0
TreesAreReports W =
    (meaning : Header → Option W) (nodes : List (Node W)) (box : Box5) → IsCutTree nodes box → IsValid box → All (HasWord meaning) (leaves_of nodes box)
    → IsTrueReport meaning box (leaves_of nodes box)
