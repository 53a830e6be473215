-- How long printed trees are.
use Rattle.std.proofs.Common.{◌≡◌, ◌+◌, ◌*◌, ◌≤◌, ◌++◌, ◌∷◌, [], List, arith, codes, decimal, length, length-append, lit<, nat_le, refl, true, ℕ}
use Rattle.std.specs.Cmp.{first_so, second_so}
use Rattle.std.specs.List.{AllByRecursion}
use Rattle.vpc_base.proofs.Lemmas.{leb-true, length-decimal-le, recursion_from_All}
use Rattle.prefix_text.proofs.AddrLaws.{length-addr_text-le}
use Rattle.vpc_laws.specs.Types.{Box5, Phase, StopName, StopText}
use Rattle.vpc_model.specs.Id.{is_id}
use Rattle.vpc_model.specs.Names.{name_text}
use Rattle.vpc_model.specs.Told.{end_id}
use Rattle.vpc_model.specs.declared.outcomes.Phase.TheVariants as phases
use Rattle.vpc_model.specs.declared.stops.StopName.TheVariants as names
use Rattle.box_images.specs.Fields.{greatest_on, side_of}
use Rattle.box_images.specs.declared.fields.Side.{Side}
use Rattle.box_images.specs.declared.fields.Side.TheVariants.{Proto, Src, Dst, P, Q}
use Rattle.ordered_cover.specs.Trees.{divides, leaf_count, part_below, part_from, stand_for}
use Rattle.ordered_cover.specs.declared.trees.Node.{Node}
use Rattle.ordered_cover.specs.declared.trees.Node.TheVariants.{Cut, Leaf}
use Rattle.block_report.specs.Reports.{box_line, box_text, ends_line}
use Rattle.block_report.specs.Trees.{NodeHasIds, cut_line, leaf_line, node_lines, number_text, side_name}
use Rattle.block_report.specs.Walks.{phase_text}
use Rattle.report_reader.specs.ReadsBack.{Fits, PrintedTreesFit}
use Rattle.report_reader.proofs.Lengths.{length-box_text-le, length-ends_line-le, length-id-le, word_line}
use Rattle.report_reader.proofs.ReadNodes.{fits_below, fits_from, within_side}

-- ---- words

-- no name of a stop is longer than `BlockPublicAccess`
short_name : (name : StopName) → nat_le (length (name_text name)) 17 ≡ true
short_name names.Detached = refl
short_name _ = refl

short_phase : (phase : Phase) → length (phase_text phase) ≤ 7
short_phase phases.Request = omega arith
short_phase phases.Reply = omega arith

short_side : (s : Side) → length (side_name s) ≤ 5
short_side Proto = omega arith
short_side Src = omega arith
short_side Dst = omega arith
short_side P = omega arith
short_side Q = omega arith

short_number : (s : Side) (c : ℕ) → c ≤ greatest_on s → length (side_name s) + length (number_text s c) ≤ 18
short_number Proto c le = let l = length-decimal-le 3 c (lit< tt) (omega (arith, le)) (omega (arith, le)) in omega (arith, l)
short_number Src c le = let l = length-addr_text-le c (omega (arith, le)) in omega (arith, l)
short_number Dst c le = let l = length-addr_text-le c (omega (arith, le)) in omega (arith, l)
short_number P c le = let l = length-decimal-le 5 c (lit< tt) (omega (arith, le)) (omega (arith, le)) in omega (arith, l)
short_number Q c le = let l = length-decimal-le 5 c (lit< tt) (omega (arith, le)) (omega (arith, le)) in omega (arith, l)

-- ---- lines

cut_of_words : (side number : List ℕ) → length side + length number ≤ 18 → length (((codes "cut" ++ 32 ∷ side) ++ 32 ∷ number) ++ 10 ∷ []) ≤ 24
cut_of_words side number short = simp length-append (omega arith)

length-cut_line-le : (s : Side) (c : ℕ) → c ≤ greatest_on s → length (cut_line s c) ≤ 24
length-cut_line-le s c le = cut_of_words (side_name s) (number_text s c) (short_number s c le)

leaf_of_words : (phase name id rule : List ℕ) → length phase ≤ 7 → length name ≤ 17 → length id ≤ 256 → length rule ≤ 256
    → length ((codes "leaf" ++ 32 ∷ (phase ++ 32 ∷ ((name ++ 32 ∷ id) ++ 32 ∷ rule))) ++ 10 ∷ []) ≤ 545
leaf_of_words phase name id rule lp ln li lr = simp length-append (omega arith)

length-leaf_line-le : (t : StopText) → is_id t.id ≡ true → is_id t.rule ≡ true → length (leaf_line t) ≤ 545
length-leaf_line-le t id rule =
    leaf_of_words (phase_text t.phase) (name_text t.name) t.id t.rule (short_phase t.phase) (leb-true (length (name_text t.name)) 17 (short_name t.name)) (length-id-le t.id id) (length-id-le t.rule rule)

-- a cut comes with one more leaf
length-node_lines-le : (nodes : List (Node StopText)) (boxes : List Box5) → stand_for nodes boxes ≡ true → AllByRecursion Fits boxes → AllByRecursion NodeHasIds nodes
    → length (node_lines nodes) + 24 * length boxes ≤ 569 * leaf_count nodes
length-node_lines-le [] [] t fits ids = omega arith
length-node_lines-le [] (b ∷ boxes) t fits ids = absurd cc
length-node_lines-le (node ∷ nodes) [] t fits ids = absurd cc
length-node_lines-le (Leaf told ∷ nodes) (b ∷ boxes) t fits ids =
    let line = length-leaf_line-le told ids.0.0 ids.0.1 in
    let rest = length-node_lines-le nodes boxes t fits.1 ids.1 in
    let l = length-append (leaf_line told) (node_lines nodes) in
    omega (arith, line, rest, l)
length-node_lines-le (Cut s c ∷ nodes) (b ∷ boxes) t fits ids =
    let divided = first_so (divides c (side_of b s)) (stand_for nodes (part_below b s c ∷ (part_from b s c ∷ boxes))) t in
    let stands = second_so (divides c (side_of b s)) (stand_for nodes (part_below b s c ∷ (part_from b s c ∷ boxes))) t in
    let le = within_side b s c fits.0 divided in
    let line = length-cut_line-le s c le in
    let rest = length-node_lines-le nodes (part_below b s c ∷ (part_from b s c ∷ boxes)) stands (fits_below b s c le fits.0, (fits_from b s c fits.0, fits.1)) ids.1 in
    let l = length-append (cut_line s c) (node_lines nodes) in
    omega (arith, line, rest, l)

-- ---- the whole

five_parts : (version query box nodes end : List ℕ) → length version ≤ 20 → length query ≤ 600 → length box ≤ 105 → length nodes ≤ 56900000 → length end ≤ 105
    → length ((version ++ ((query ++ box) ++ nodes)) ++ end) ≤ 56901000
five_parts version query box nodes end lv lq lb lr le = simp length-append (omega arith)

pub printed_trees_fit : PrintedTreesFit
printed_trees_fit d r accepted h =
    let few = h.few in
    let all = length-node_lines-le r.nodes (r.sides ∷ []) h.tree (h.fits, tt) (recursion_from_All NodeHasIds r.nodes h.ids.leaves) in
    let number = length-decimal-le 6 (leaf_count r.nodes) (lit< tt) (omega (arith, few)) (omega (arith, few)) in
    let most = five_parts (codes "vpc-report 2" ++ 10 ∷ []) (ends_line (end_id d r.start) (end_id d r.goal)) (box_line r.sides) (node_lines r.nodes) ((codes "end" ++ 32 ∷ decimal (leaf_count r.nodes)) ++ 10 ∷ [])
    (omega arith)
    (length-ends_line-le (end_id d r.start) (end_id d r.goal) h.ids.start h.ids.goal)
    (word_line (codes "box") (box_text r.sides) (omega arith) (length-box_text-le r.sides h.valid h.fits))
    (omega (arith, all, few))
    (word_line (codes "end") (decimal (leaf_count r.nodes)) (omega arith) (omega (arith, number))) in
    omega (arith, most)
