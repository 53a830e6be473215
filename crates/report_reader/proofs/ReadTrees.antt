-- Printed trees read as what they were.
use Rattle.std.proofs.Common.{◌≡◌, ◌∙◌, ◌≤◌, ◌++◌, ◌∷◌, [], List, Ok, Result, ap, append_assoc, arith, codes, decimal, drop, refl, true, ℕ}
use Rattle.std.specs.Cmp.{first_so, second_so}
use Rattle.std.specs.List.{AllByRecursion}
use Rattle.vpc_base.proofs.Lemmas.{recursion_from_All}
use Rattle.vpc_laws.specs.Types.{Box5, Description, StopText}
use Rattle.box_images.specs.Fields.{greatest_on, side_of}
use Rattle.ordered_cover.specs.Trees.{divides, leaf_count, part_below, part_from, stand_for}
use Rattle.ordered_cover.specs.declared.trees.Node.{Node}
use Rattle.ordered_cover.specs.declared.trees.Node.TheVariants.{Cut, Leaf}
use Rattle.vpc_model.specs.Accepted.{IsAccepted}
use Rattle.vpc_model.specs.Id.{is_id}
use Rattle.vpc_model.specs.Told.{end_id}
use Rattle.block_report.specs.Reports.{box_line}
use Rattle.block_report.specs.Trees.{NodeHasIds, node_line, node_lines, tree_of, tree_text}
use Rattle.report_reader.specs.declared.lines.Version.TheVariants as versions
use Rattle.report_reader.specs.declared.report.ReportFault.{ReportFault}
use Rattle.report_reader.specs.declared.report.Shape.TheVariants as shapes
use Rattle.report_reader.specs.Lines.{query_of, sides_of, version_of}
use Rattle.report_reader.specs.ReadsBack.{Fits, IsPrintableTree, PrintedTreesReadBack, Treed, treed_report}
use Rattle.report_reader.specs.Reports.{◌>>=◌, line_as, pieces_of, report_in, report_of_pieces, report_of_text, shape_from}
use Rattle.report_reader.proofs.Printed.{IsWord-decimal, IsWord-id, joined, pieces_of-line, words_of-joined}
use Rattle.report_reader.proofs.ReadEnds.{ends_named-end_ids}
use Rattle.report_reader.proofs.ReadLines.{AreWords-box, box_line-joined, box_words, sides_of-words}
use Rattle.report_reader.proofs.ReadNodes.{AreWords-cut, AreWords-leaf, cut_line-joined, cut_words, fits_below, fits_from, leaf_line-joined, leaf_words, node_text, node_texts, nodes_from-texts, within_side}
use Rattle.report_reader.proofs.ReadReports.{end_text, ends_line-joined, line-read, line_before, parts, query_are_words, query_words, report_from, report_of_lines}

-- ---- the lines of nodes

-- the words of a node are words
abbrev IsOfWords : Node StopText → Type 0
IsOfWords (Cut s c) = c ≤ greatest_on s
IsOfWords (Leaf t) = (is_id t.id ≡ true) × (is_id t.rule ≡ true)

of_words : (nodes : List (Node StopText)) (boxes : List Box5) → stand_for nodes boxes ≡ true → AllByRecursion Fits boxes → AllByRecursion NodeHasIds nodes → AllByRecursion IsOfWords nodes
of_words [] boxes t fits ids = tt
of_words (node ∷ nodes) [] t fits ids = absurd cc
of_words (Leaf told ∷ nodes) (b ∷ boxes) t fits ids = (ids.0, of_words nodes boxes t fits.1 ids.1)
of_words (Cut s c ∷ nodes) (b ∷ boxes) t fits ids =
    let divided = first_so (divides c (side_of b s)) (stand_for nodes (part_below b s c ∷ (part_from b s c ∷ boxes))) t in
    let rest = second_so (divides c (side_of b s)) (stand_for nodes (part_below b s c ∷ (part_from b s c ∷ boxes))) t in
    let le = within_side b s c fits.0 divided in
    (le, of_words nodes (part_below b s c ∷ (part_from b s c ∷ boxes)) rest (fits_below b s c le fits.0, (fits_from b s c fits.0, fits.1)) ids.1)

node_line-text : (node : Node StopText) → node_line node ≡ node_text node ++ 10 ∷ []
node_line-text (Cut s c) = cut_line-joined s c
node_line-text (Leaf t) = leaf_line-joined t

pieces_of-node : (node : Node StopText) (rest : List ℕ) → IsOfWords node → pieces_of (node_text node ++ 10 ∷ rest) ≡ node_text node ∷ pieces_of rest
pieces_of-node (Cut s c) rest h = pieces_of-line (codes "cut") (cut_words s c) rest (IsWord-id (codes "cut") refl) (AreWords-cut s c h)
pieces_of-node (Leaf t) rest h = pieces_of-line (codes "leaf") (leaf_words t) rest (IsWord-id (codes "leaf") refl) (AreWords-leaf t h.0 h.1)

pieces_of-nodes : (nodes : List (Node StopText)) (rest : List ℕ) → AllByRecursion IsOfWords nodes → pieces_of (node_lines nodes ++ rest) ≡ node_texts nodes ++ pieces_of rest
pieces_of-nodes [] rest h = refl
pieces_of-nodes (node ∷ nodes) rest h =
    let line = node_text node in
    let more = node_lines nodes in
    ap (λ (text : List ℕ). pieces_of ((text ++ more) ++ rest)) (node_line-text node)
    ∙ (ap pieces_of (line_before line more rest)
    ∙ (pieces_of-node node (more ++ rest) h.0 ∙ ap (λ (lines : List (List ℕ)). line ∷ lines) (pieces_of-nodes nodes rest h.1)))

-- ---- the whole

-- the three lines before the nodes
abbrev tree_lines : List ℕ → List ℕ → Box5 → List (List ℕ) → List (List ℕ)
tree_lines from_id to_id sides lines =
    joined (codes "vpc-report") (codes "2" ∷ []) ∷ joined (codes "query") (query_words from_id to_id) ∷ joined (codes "box") (box_words sides) ∷ lines

tree_text-parts : (from_id to_id : List ℕ) (sides : Box5) (nodes : List (Node StopText))
    → tree_of from_id to_id sides nodes
    ≡ codes "vpc-report 2" ++ 10 ∷ (joined (codes "query") (query_words from_id to_id) ++ 10 ∷ (joined (codes "box") (box_words sides) ++ 10 ∷ (node_lines nodes ++ (end_text (leaf_count nodes) ++ 10 ∷ []))))
tree_text-parts from_id to_id sides nodes =
    let version = codes "vpc-report 2" ++ 10 ∷ [] in
    let lines = node_lines nodes in
    let end = end_text (leaf_count nodes) ++ 10 ∷ [] in
    ap (λ (query : List ℕ). (version ++ ((query ++ box_line sides) ++ lines)) ++ end) (ends_line-joined from_id to_id)
    ∙ (ap (λ (box : List ℕ). (version ++ (((joined (codes "query") (query_words from_id to_id) ++ 10 ∷ []) ++ box) ++ lines)) ++ end) (box_line-joined sides)
    ∙ parts (codes "vpc-report 2") (joined (codes "query") (query_words from_id to_id)) (joined (codes "box") (box_words sides)) lines (end_text (leaf_count nodes)))

module _ (d : Description) (r : Treed) (accepted : IsAccepted d) (h : IsPrintableTree d r) where
  abbrev from_id : List ℕ
  from_id = end_id d r.start

  abbrev to_id : List ℕ
  to_id = end_id d r.goal

  ids : AllByRecursion NodeHasIds r.nodes
  ids = recursion_from_All NodeHasIds r.nodes h.ids.leaves

  abbrev fit : AllByRecursion Fits (r.sides ∷ [])
  fit = (h.fits, tt)

  abbrev lines : List (List ℕ)
  lines = tree_lines from_id to_id r.sides (node_texts r.nodes ++ end_text (leaf_count r.nodes) ∷ [])

  pieces_of-tree : pieces_of (tree_of from_id to_id r.sides r.nodes) ≡ lines ++ [] ∷ []
  pieces_of-tree =
      let end = end_text (leaf_count r.nodes) in
      let query = joined (codes "query") (query_words from_id to_id) in
      let box = joined (codes "box") (box_words r.sides) in
      let after_nodes = end ++ 10 ∷ [] in
      let after_box = node_lines r.nodes ++ after_nodes in
      let few = h.few in
      ap pieces_of (tree_text-parts from_id to_id r.sides r.nodes)
      ∙ (pieces_of-line (codes "vpc-report") (codes "2" ∷ []) (query ++ 10 ∷ (box ++ 10 ∷ after_box)) (IsWord-id _ refl) (IsWord-id _ refl, tt)
      ∙ ap (λ (ls : List (List ℕ)). codes "vpc-report 2" ∷ ls) (pieces_of-line (codes "query") (query_words from_id to_id) (box ++ 10 ∷ after_box) (IsWord-id _ refl) (query_are_words from_id to_id h.ids.start h.ids.goal)
      ∙ ap (λ (ls : List (List ℕ)). query ∷ ls) (pieces_of-line (codes "box") (box_words r.sides) after_box (IsWord-id _ refl) (AreWords-box r.sides h.valid h.fits)
      ∙ ap (λ (ls : List (List ℕ)). box ∷ ls) (pieces_of-nodes r.nodes after_nodes (of_words r.nodes (r.sides ∷ []) h.tree fit ids)
      ∙ (ap (λ (ls : List (List ℕ)). node_texts r.nodes ++ ls) (pieces_of-line (codes "end") (decimal (leaf_count r.nodes) ∷ []) [] (IsWord-id _ refl) (IsWord-decimal (leaf_count r.nodes) (omega (arith, few)), tt))
      ∙ sym_append (node_texts r.nodes) (end ∷ []) ([] ∷ []))))))
    where
      sym_append : (xs ys zs : List (List ℕ)) → xs ++ (ys ++ zs) ≡ (xs ++ ys) ++ zs
      sym_append xs ys zs = simp append_assoc

  treed : (nodes : Result (List (Node StopText)) ReportFault) (all : List (Node StopText)) → nodes ≡ Ok all → nodes >>= (λ nodes. Ok (shapes.Tree nodes)) ≡ Ok (shapes.Tree all)
  treed nodes all is = ap (λ (r : Result (List (Node StopText)) ReportFault). r >>= (λ nodes. Ok (shapes.Tree nodes))) is

  report_in-tree : report_in d lines true ≡ Ok (treed_report r)
  report_in-tree =
      report_from (line_as version_of lines 1) (line_as (query_of d) lines 2) (line_as sides_of lines 3) (λ version sides. shape_from version sides true (drop 3 lines)) versions.Second (treed_report r)
      (line-read version_of (codes "vpc-report 2") 1 (codes "vpc-report" ∷ codes "2" ∷ []) versions.Second (words_of-joined (codes "vpc-report") (codes "2" ∷ []) (IsWord-id _ refl) (IsWord-id _ refl, tt)) refl)
      (line-read (query_of d) (joined (codes "query") (query_words from_id to_id)) 2 (codes "query" ∷ query_words from_id to_id) (r.start, r.goal) (words_of-joined (codes "query") (query_words from_id to_id) (IsWord-id _ refl) (query_are_words from_id to_id h.ids.start h.ids.goal))
      (ends_named-end_ids d r.start r.goal accepted h.ends))
      (line-read sides_of (joined (codes "box") (box_words r.sides)) 3 (codes "box" ∷ box_words r.sides) r.sides (words_of-joined (codes "box") (box_words r.sides) (IsWord-id _ refl) (AreWords-box r.sides h.valid h.fits))
      (sides_of-words r.sides h.valid h.fits))
      (treed _ r.nodes (nodes_from-texts (r.sides ∷ []) 0 4 (leaf_count r.nodes) r.nodes h.tree (omega arith) h.few fit ids))

  tree_reads_back : report_of_text d (tree_text d r.start r.goal r.sides r.nodes) ≡ Ok (treed_report r)
  tree_reads_back = ap (report_of_pieces d) pieces_of-tree ∙ (report_of_lines d lines ∙ report_in-tree)

pub printed_trees_read_back : PrintedTreesReadBack
printed_trees_read_back d r accepted h = tree_reads_back d r accepted h
