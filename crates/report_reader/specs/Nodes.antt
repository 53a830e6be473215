-- The nodes of a cut tree in a report of version 2, one a line: `cut SIDE AT` or `leaf PHASE STOP`.
use Rattle.std.specs.Prelude.{◌==◌, ◌&&◌, ◌+◌, ◌∷◌, [], if◌then◌else◌, Bool, Err, List, None, Ok, Option, Result, Some, bytes_eq, codes, length, nat_lt, slice_get, true, ℕ}
use Rattle.vpc_laws.specs.Types.{Box5, StopText}
use Rattle.box_images.specs.Fields.{side_of}
use Rattle.box_images.specs.declared.fields.Side.{Side}
use Rattle.box_images.specs.declared.fields.Side.TheVariants.{Proto, Src, Dst, P, Q}
use Rattle.ordered_cover.specs.Trees.{divides, part_below, part_from}
use Rattle.ordered_cover.specs.Walk.{CanBeCut}
use Rattle.ordered_cover.specs.declared.trees.Node.{Node}
use Rattle.ordered_cover.specs.declared.trees.Node.TheVariants.{Cut, Leaf}
use Rattle.prefix_text.specs.Addr.{addr_of}
use Rattle.prefix_text.specs.Number.{number_of}
use Rattle.query_words.specs.Events.{words_of}
use Rattle.report_reader.specs.Boxes.{◌>>=◌, word_at}
use Rattle.report_reader.specs.Lines.{is_end_line}
use Rattle.report_reader.specs.Stops.{told_of}
use Rattle.report_reader.specs.declared.report.ReportFault.{ReportFault}
use Rattle.report_reader.specs.declared.report.ReportFault.TheVariants as faults

-- ---- a node by its words

-- a side by its name
abbrev pub side_named : List ℕ → Option Side
side_named word =
    if bytes_eq word (codes "proto") then Some Proto
    else (if bytes_eq word (codes "src") then Some Src
    else (if bytes_eq word (codes "dst") then Some Dst
    else (if bytes_eq word (codes "p") then Some P
    else (if bytes_eq word (codes "q") then Some Q else None))))

-- a number of a side: an address of a source or a destination, else in decimal
abbrev pub number_on : Side → List ℕ → Option ℕ
number_on Proto text = number_of text 255
number_on Src text = addr_of text
number_on Dst text = addr_of text
number_on P text = number_of text 65535
number_on Q text = number_of text 65535

-- cut SIDE AT
abbrev pub is_cut : List (List ℕ) → Bool
is_cut words = (length words == 3) && bytes_eq (word_at words 0) (codes "cut")

abbrev pub cut_in : List (List ℕ) → Option (Node StopText)
cut_in words = do
  side ← side_named (word_at words 1)
  number ← number_on side (word_at words 2)
  Some (Cut side number)

-- leaf PHASE STOP
abbrev pub is_leaf : List (List ℕ) → Bool
is_leaf words = (length words == 5) && bytes_eq (word_at words 0) (codes "leaf")

abbrev pub leaf_in : List (List ℕ) → Option (Node StopText)
leaf_in words = do
  told ← told_of (word_at words 1) (word_at words 2) (word_at words 3) (word_at words 4)
  Some (Leaf told)

-- a cut or a leaf
abbrev pub node_of : List (List ℕ) → Option (Node StopText)
node_of words = if is_cut words then cut_in words else (if is_leaf words then leaf_in words else None)

-- a cut divides its side of the box
abbrev pub fits_box : Box5 → Node StopText → Bool
fits_box b (Cut s c) = divides c (side_of b s)
fits_box b (Leaf told) = true

-- a node that stands for the box
abbrev pub node_for : Box5 → List (List ℕ) → Option (Node StopText)
node_for b words = do
  node ← node_of words
  if fits_box b node then Some node else None

-- ---- nodes on lines

-- the leaves that a report may have
abbrev pub leaf_limit : ℕ
leaf_limit = 100000

-- a node on this line after so many leaves, where it is read
abbrev pub node_within : ℕ → ℕ → Node StopText → Result (Option (Node StopText)) ReportFault
node_within leaves number (Cut s c) = Ok (Some (Cut s c))
node_within leaves number (Leaf told) = if nat_lt leaves leaf_limit then Ok (Some (Leaf told)) else Err (faults.TooManyBoxes number)

-- a node that is read, or none
abbrev pub node_or_fault : ℕ → ℕ → Option (Node StopText) → Result (Option (Node StopText)) ReportFault
node_or_fault leaves number (Some node) = node_within leaves number node
node_or_fault leaves number None = Err (faults.BadLine number)

-- the end of the report on this line after so many leaves
abbrev pub end_of_tree : ℕ → ℕ → Bool → List (List ℕ) → Result (Option (Node StopText)) ReportFault
end_of_tree leaves number last words =
    if is_end_line leaves words then (if last then Ok None else Err (faults.BadLine (number + 1)))
    else Err (faults.BadLine number)

-- the node of these words, for the first of the boxes that are still to be stood for; where there is none the report ends
abbrev pub node_or_end : Option Box5 → ℕ → ℕ → Bool → List (List ℕ) → Result (Option (Node StopText)) ReportFault
node_or_end None leaves number last words = end_of_tree leaves number last words
node_or_end (Some b) leaves number last words = node_or_fault leaves number (node_for b words)

abbrev pub next_node : List Box5 → ℕ → ℕ → Bool → List ℕ → Result (Option (Node StopText)) ReportFault
next_node boxes leaves number last line = node_or_end (slice_get boxes 0) leaves number last (words_of line)

-- the boxes that are left after a node: a leaf stands for the first one, a cut makes two of it
abbrev pub boxes_after : Result (Option (Node StopText)) ReportFault → List Box5 → List Box5
boxes_after (Ok (Some (Leaf told))) (b ∷ boxes) = boxes
boxes_after (Ok (Some (Cut s c))) (b ∷ boxes) = part_below b s c ∷ (part_from b s c ∷ boxes)
boxes_after next boxes = boxes

-- the leaves after it
abbrev pub leaves_after : Result (Option (Node StopText)) ReportFault → ℕ → ℕ
leaves_after (Ok (Some (Leaf told))) leaves = leaves + 1
leaves_after next leaves = leaves

-- a node before the others, unless the report ends here
abbrev pub node_before : Result (Option (Node StopText)) ReportFault → Result (List (Node StopText)) ReportFault → Result (List (Node StopText)) ReportFault
node_before (Ok (Some node)) (Ok nodes) = Ok (node ∷ nodes)
node_before (Ok (Some node)) (Err fault) = Err fault
node_before (Ok None) nodes = Ok []
node_before (Err fault) nodes = Err fault

-- the nodes from the line with this number on, after so many leaves, for the boxes that are still to be stood for; the line after the last one is the report's last
abbrev pub nodes_from : List Box5 → Bool → ℕ → ℕ → List (List ℕ) → Result (List (Node StopText)) ReportFault
nodes_from boxes ended leaves number [] = Err (faults.BadLine number)
nodes_from boxes ended leaves number (line ∷ lines) =
    let next = next_node boxes leaves number ((length lines == 0) && ended) line in
    node_before next (nodes_from (boxes_after next boxes) ended (leaves_after next leaves) (number + 1) lines)

-- a cut divides its side of the first box that is left
abbrev pub CanPass : Node StopText → List Box5 → Type 0
CanPass (Cut s c) boxes = CanBeCut s c boxes
CanPass (Leaf told) boxes = Unit {0}
