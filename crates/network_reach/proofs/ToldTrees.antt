-- A tree whose leaves are told what stops their headers has the same boxes.
use Rattle.std.proofs.Common.{◌&&◌, ◌≡◌, ◌∷◌, [], Bool, List, ap, refl, true}
use Rattle.std.specs.Cmp.{second_so}
use Rattle.std.specs.List.{AllByRecursion}
use Rattle.vpc_base.proofs.Lemmas.{All-from_recursion, recursion_from_All}
use Rattle.box_images.specs.Fields.{side_of}
use Rattle.block_report.specs.Reports.{HaveText, told_row, told_rows}
use Rattle.block_report.specs.Trees.{NodeHasText, NodesHaveText, told_nodes}
use Rattle.ordered_cover.specs.Trees.{IsCutTree, divides, leaves_of, leaves_over, part_below, part_from, stand_for}
use Rattle.ordered_cover.specs.declared.trees.Node.{Node}
use Rattle.ordered_cover.specs.declared.trees.Node.TheVariants.{Cut, Leaf}
use Rattle.vpc_laws.specs.Types.{Box5, Description, Phase, Row, Stop, StopText}
use Rattle.vpc_model.specs.Sound.{has_text}

module _ (d : Description) where
  -- it stands for the same boxes
  pub stand_for-told : (nodes : List (Node (Phase × Stop))) (boxes : List Box5) → stand_for (told_nodes d nodes) boxes ≡ stand_for nodes boxes
  stand_for-told [] [] = refl
  stand_for-told [] (b ∷ boxes) = refl
  stand_for-told (Leaf word ∷ nodes) [] = refl
  stand_for-told (Cut s c ∷ nodes) [] = refl
  stand_for-told (Leaf word ∷ nodes) (b ∷ boxes) = stand_for-told nodes boxes
  stand_for-told (Cut s c ∷ nodes) (b ∷ boxes) =
      ap (λ (t : Bool). divides c (side_of b s) && t) (stand_for-told nodes (part_below b s c ∷ (part_from b s c ∷ boxes)))

  -- its leaves are those that are told
  pub leaves_over-told : (nodes : List (Node (Phase × Stop))) (boxes : List Box5) → leaves_over (told_nodes d nodes) boxes ≡ told_rows d (leaves_over nodes boxes)
  leaves_over-told [] boxes = refl
  leaves_over-told (Leaf word ∷ nodes) [] = refl
  leaves_over-told (Cut s c ∷ nodes) [] = refl
  leaves_over-told (Leaf word ∷ nodes) (b ∷ boxes) =
      ap (λ (rows : List (Row StopText)). told_row d (record { part = b; word = word }) ∷ rows) (leaves_over-told nodes boxes)
  leaves_over-told (Cut s c ∷ nodes) (b ∷ boxes) = leaves_over-told nodes (part_below b s c ∷ (part_from b s c ∷ boxes))

  -- the stop of each leaf has a text where that of each row has one
  nodes_over : (nodes : List (Node (Phase × Stop))) (boxes : List Box5) → stand_for nodes boxes ≡ true
      → AllByRecursion (λ leaf. has_text d leaf.word.1 ≡ true) (leaves_over nodes boxes) → AllByRecursion (NodeHasText d) nodes
  nodes_over [] boxes stand all = tt
  nodes_over (node ∷ nodes) [] stand all = absurd cc
  nodes_over (Leaf word ∷ nodes) (b ∷ boxes) stand all = (all.0, nodes_over nodes boxes stand all.1)
  nodes_over (Cut s c ∷ nodes) (b ∷ boxes) stand all =
      let parts = part_below b s c ∷ (part_from b s c ∷ boxes) in
      (tt, nodes_over nodes parts (second_so (divides c (side_of b s)) (stand_for nodes parts) stand) all)

  pub nodes_have_text : (nodes : List (Node (Phase × Stop))) (box : Box5) → IsCutTree nodes box → HaveText d (leaves_of nodes box) → NodesHaveText d nodes
  nodes_have_text nodes box tree all =
      All-from_recursion (NodeHasText d) nodes
      (nodes_over nodes (box ∷ []) tree (recursion_from_All (λ leaf. has_text d leaf.word.1 ≡ true) (leaves_of nodes box) all))
