-- What a cover that grows as a tree answers, over a meaning that gives each header a word or lets it through.
use Rattle.std.specs.Prelude.{ℕ, ◌≤◌, List, Option, All, length}
use Rattle.vpc_base.specs.Cuts.{CutLists}
use Rattle.vpc_base.specs.declared.headers.Header.{Header}
use Rattle.header_boxes.specs.Cells.{IsAligned}
use Rattle.header_boxes.specs.Rows.{HasWord, IsFirstThrough}
use Rattle.header_boxes.specs.declared.boxes.Box5.{Box5}
use Rattle.ordered_cover.specs.Cover.{IsMore}
use Rattle.ordered_cover.specs.Joined.{GoesOn}
use Rattle.ordered_cover.specs.Trees.{IsCutTree, leaves_of}
use Rattle.ordered_cover.specs.declared.rows.Grown.{Grown}
use Rattle.ordered_cover.specs.declared.rows.Grown.TheVariants as grown
use Rattle.ordered_cover.specs.declared.trees.Node.{Node}

-- a cut tree of the sides with at most max leaves, each of which is aligned and has the word of all its headers
pub record IsGrownTree {W : Type 0} (meaning : Header → Option W) (cuts : CutLists) (sides : Box5) (max : ℕ) (nodes : List (Node W)) : Type 0 where
  pub tree : IsCutTree nodes sides
  pub few : length (leaves_of nodes sides) ≤ max
  pub word : All (HasWord meaning) (leaves_of nodes sides)
  pub aligned : All (λ leaf. IsAligned cuts leaf.part sides) (leaves_of nodes sides)

-- what a cover with at most max leaves answers
abbrev pub IsGrown : {W : Type 0} → (Header → Option W) → CutLists → Box5 → ℕ → Grown W → Type 0
IsGrown meaning cuts sides max (grown.Found h) = IsFirstThrough meaning sides h
IsGrown meaning cuts sides max (grown.Blocked nodes) = IsGrownTree meaning cuts sides max nodes.items
IsGrown meaning cuts sides max (grown.More rows next) = IsMore GoesOn meaning cuts sides max rows.items next
