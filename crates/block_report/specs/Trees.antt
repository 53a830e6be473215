-- How a report is printed whose boxes are the leaves of a cut tree. Each line ends with one newline.
use Rattle.std.specs.Prelude.{◌≡◌, ◌++◌, ◌∷◌, [], All, List, codes, decimal, map, true, ℕ}
use Rattle.vpc_laws.specs.Types.{Box5, Description, End, Phase, Stop, StopText}
use Rattle.box_images.specs.declared.fields.Side.{Side}
use Rattle.box_images.specs.declared.fields.Side.TheVariants.{Proto, Src, Dst, P, Q}
use Rattle.ordered_cover.specs.Trees.{leaf_count}
use Rattle.ordered_cover.specs.declared.trees.Node.{Node}
use Rattle.ordered_cover.specs.declared.trees.Node.TheVariants.{Cut, Leaf}
use Rattle.prefix_text.specs.Addr.{addr_text}
use Rattle.block_report.specs.Reports.{box_line, ends_line}
use Rattle.block_report.specs.Walks.{told_text}
use Rattle.block_report.specs.Words.{line_end, number_line, word}
use Rattle.vpc_model.specs.Id.{is_id}
use Rattle.vpc_model.specs.Sound.{has_text}
use Rattle.vpc_model.specs.Told.{end_id, told_stop}

-- ---- nodes

-- a side by its name
abbrev pub side_name : Side → List ℕ
side_name Proto = codes "proto"
side_name Src = codes "src"
side_name Dst = codes "dst"
side_name P = codes "p"
side_name Q = codes "q"

-- a number of a side: an address of a source or a destination, else in decimal
abbrev pub number_text : Side → ℕ → List ℕ
number_text Proto c = decimal c
number_text Src c = addr_text c
number_text Dst c = addr_text c
number_text P c = decimal c
number_text Q c = decimal c

-- a cut: the side and the number
abbrev pub cut_line : Side → ℕ → List ℕ
cut_line s c = codes "cut" ++ word (side_name s) ++ word (number_text s c) ++ line_end

-- a leaf: what stops the headers of its box
abbrev pub leaf_line : StopText → List ℕ
leaf_line told = codes "leaf" ++ word (told_text told) ++ line_end

abbrev pub node_line : Node StopText → List ℕ
node_line (Cut s c) = cut_line s c
node_line (Leaf told) = leaf_line told

-- one node a line
abbrev pub node_lines : List (Node StopText) → List ℕ
node_lines [] = []
node_lines (node ∷ nodes) = node_line node ++ node_lines nodes

-- ---- reports

-- the nodes of a tree between the query and the number of leaves, by the ids of the two ends
abbrev pub tree_of : List ℕ → List ℕ → Box5 → List (Node StopText) → List ℕ
tree_of from_id to_id whole nodes =
    (codes "vpc-report 2" ++ line_end) ++ (ends_line from_id to_id ++ box_line whole ++ node_lines nodes) ++ number_line (codes "end") (leaf_count nodes)

-- a report whose boxes are the leaves of a tree, in a network
abbrev pub tree_text : Description → End → End → Box5 → List (Node StopText) → List ℕ
tree_text d start goal whole nodes = tree_of (end_id d start) (end_id d goal) whole nodes

-- ---- what is told of leaves

-- of the stop of a leaf
abbrev pub told_node : Description → Node (Phase × Stop) → Node StopText
told_node d (Cut s c) = Cut s c
told_node d (Leaf word) = Leaf (told_stop d word.0 word.1)

abbrev pub told_nodes : Description → List (Node (Phase × Stop)) → List (Node StopText)
told_nodes d nodes = map (told_node d) nodes

-- the stop of a leaf has a text
abbrev pub NodeHasText : Description → Node (Phase × Stop) → Type 0
NodeHasText d (Cut s c) = Unit {0}
NodeHasText d (Leaf word) = has_text d word.1 ≡ true

abbrev pub NodesHaveText : Description → List (Node (Phase × Stop)) → Type 0
NodesHaveText d nodes = All (NodeHasText d) nodes

-- the component and the rule of a leaf are ids
abbrev pub NodeHasIds : Node StopText → Type 0
NodeHasIds (Cut s c) = Unit {0}
NodeHasIds (Leaf told) = (is_id told.id ≡ true) × (is_id told.rule ≡ true)

-- what is named in a report is named by ids
pub record AreTreeIds (d : Description) (from to : End) (nodes : List (Node StopText)) : Type 0 where
  pub start : is_id (end_id d from) ≡ true
  pub goal : is_id (end_id d to) ≡ true
  pub leaves : All NodeHasIds nodes
