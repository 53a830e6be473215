-- Nodes on lines, one after another.
use Rattle.std.proofs.Common.{◌≡◌, ◌∙◌, ◌+◌, ◌<◌, ◌≤◌, ◌==◌, ◌&&◌, ◌++◌, ◌∷◌, [], Bool, Bor, Err, List, None, Ok, Option, Result, Some, ap, append_assoc, append-nil, arith, cond, drop, false, get_or, length, map, nat_lt, refl, slice_get, subst, sym, true, IsErrAnd, ℕ}
use Rattle.std.proofs.lemmas.Bool.{and_from, ltb-true}
use Rattle.std.proofs.lemmas.List.{drop_all, get_or_default}
use Rattle.vpc_base.proofs.Steps.{drop-next}
use Rattle.vpc_laws.specs.Types.{Box5, StopText}
use Rattle.box_images.specs.Fields.{side_of}
use Rattle.ordered_cover.specs.Trees.{divides, leaf_count, stand_for}
use Rattle.ordered_cover.specs.Walk.{IsCutAt, IsLeft}
use Rattle.ordered_cover.specs.declared.trees.Node.{Node}
use Rattle.ordered_cover.specs.declared.trees.Node.TheVariants.{Cut, Leaf}
use Rattle.query_words.specs.Events.{words_of}
use Rattle.report_reader.specs.declared.report.ReportFault.{ReportFault}
use Rattle.report_reader.specs.declared.report.ReportFault.TheVariants as faults
use Rattle.report_reader.specs.Boxes.{◌>>=◌}
use Rattle.report_reader.specs.Lines.{is_end_line}
use Rattle.report_reader.specs.Nodes.{CanPass, boxes_after, fits_box, leaf_limit, leaves_after, next_node, node_before, node_for, node_of, node_or_end, node_or_fault, nodes_from}
use Rattle.report_reader.specs.Reports.{IsRead}
use Rattle.report_reader.proofs.RowLemmas.{after_rows, last_line}

-- ---- what is read is a tree

-- a node that is read for a box fits it
pub node_for-fits : (b : Box5) (words : List (List ℕ)) (node : Node StopText) → node_for b words ≡ Some node → fits_box b node ≡ true
node_for-fits b words node is = by (node_of words) is
  where
    by_test : (n : Node StopText) (t : Bool) → fits_box b n ≡ t → cond t (Some n) None ≡ Some node → fits_box b node ≡ true
    by_test n true fits e = let same : n ≡ node = cc in subst (λ v. fits_box b v ≡ true) same fits
    by_test n false fits e = absurd cc

    by : (o : Option (Node StopText)) → o >>= (λ n. cond (fits_box b n) (Some n) None) ≡ Some node → fits_box b node ≡ true
    by (Some n) e = by_test n (fits_box b n) refl e
    by None e = absurd cc

-- the nodes stand for the boxes, and there aren't too many leaves
pub record AreNodesOf (boxes : List Box5) (leaves : ℕ) (nodes : List (Node StopText)) : Type 0 where
  pub stand : stand_for nodes boxes ≡ true
  pub few : leaves + leaf_count nodes ≤ leaf_limit

module _ (rest : List Box5 → ℕ → Result (List (Node StopText)) ReportFault)
    (later : (boxes : List Box5) (leaves : ℕ) (nodes : List (Node StopText)) → leaves ≤ leaf_limit → rest boxes leaves ≡ Ok nodes → AreNodesOf boxes leaves nodes) where
  by_cut : (b : Box5) (boxes : List Box5) (leaves : ℕ) (s : _) (c : ℕ) (nodes : List (Node StopText)) → leaves ≤ leaf_limit → divides c (side_of b s) ≡ true
      → (r : Result (List (Node StopText)) ReportFault) → rest (boxes_after (Ok (Some (Cut s c))) (b ∷ boxes)) leaves ≡ r
      → node_before (Ok (Some (Cut s c))) r ≡ Ok nodes → AreNodesOf (b ∷ boxes) leaves nodes
  by_cut b boxes leaves s c nodes few fits (Ok more) is e =
      let l = later (boxes_after (Ok (Some (Cut s c))) (b ∷ boxes)) leaves more few is in
      let same : (Cut s c ∷ more) ≡ nodes = cc in
      subst (AreNodesOf (b ∷ boxes) leaves) same (record { stand = and_from _ _ fits l.stand; few = l.few })
  by_cut b boxes leaves s c nodes few fits (Err fault) is e = absurd cc

  by_leaf : (b : Box5) (boxes : List Box5) (leaves : ℕ) (told : StopText) (nodes : List (Node StopText)) → leaves < leaf_limit
      → (r : Result (List (Node StopText)) ReportFault) → rest boxes (leaves + 1) ≡ r
      → node_before (Ok (Some (Leaf told))) r ≡ Ok nodes → AreNodesOf (b ∷ boxes) leaves nodes
  by_leaf b boxes leaves told nodes few (Ok more) is e =
      let l = later boxes (leaves + 1) more (omega (arith, few)) is in
      let same : (Leaf told ∷ more) ≡ nodes = cc in
      let count = l.few in
      subst (AreNodesOf (b ∷ boxes) leaves) same (record { stand = l.stand; few = omega (arith, count) })
  by_leaf b boxes leaves told nodes few (Err fault) is e = absurd cc

  by_node : (b : Box5) (boxes : List Box5) (leaves number : ℕ) (words : List (List ℕ)) (o : Option (Node StopText)) (nodes : List (Node StopText)) → leaves ≤ leaf_limit → node_for b words ≡ o
      → (let next = node_or_fault leaves number o in node_before next (rest (boxes_after next (b ∷ boxes)) (leaves_after next leaves)) ≡ Ok nodes)
      → AreNodesOf (b ∷ boxes) leaves nodes
  by_node b boxes leaves number words None nodes few is e = absurd cc
  by_node b boxes leaves number words (Some (Cut s c)) nodes few is e = by_cut b boxes leaves s c nodes few (node_for-fits b words (Cut s c) is) _ refl e
  by_node b boxes leaves number words (Some (Leaf told)) nodes few is e = by_test (nat_lt leaves leaf_limit) refl e
    where
      at : Bool → Result (Option (Node StopText)) ReportFault
      at t = cond t (Ok (Some (Leaf told))) (Err (faults.TooManyBoxes number))

      by_test : (t : Bool) → nat_lt leaves leaf_limit ≡ t → node_before (at t) (rest (boxes_after (at t) (b ∷ boxes)) (leaves_after (at t) leaves)) ≡ Ok nodes → AreNodesOf (b ∷ boxes) leaves nodes
      by_test true lt f = by_leaf b boxes leaves told nodes (ltb-true leaves leaf_limit lt) _ refl f
      by_test false lt f = absurd cc

  by_end : (leaves number : ℕ) (end last : Bool) (nodes : List (Node StopText)) → leaves ≤ leaf_limit
      → (let next = cond end (cond last (Ok None) (Err (faults.BadLine (number + 1)))) (Err (faults.BadLine number)) in
      node_before next (rest (boxes_after next []) (leaves_after next leaves)) ≡ Ok nodes)
      → AreNodesOf [] leaves nodes
  by_end leaves number true true nodes few e =
      let same : [] ≡ nodes = cc in
      subst (AreNodesOf [] leaves) same (record { stand = refl; few = omega (arith, few) })
  by_end leaves number true false nodes few e = absurd cc
  by_end leaves number false last nodes few e = absurd cc

pub nodes_from-tree : (boxes : List Box5) (ended : Bool) (leaves number : ℕ) (lines : List (List ℕ)) (nodes : List (Node StopText)) → leaves ≤ leaf_limit
    → nodes_from boxes ended leaves number lines ≡ Ok nodes → AreNodesOf boxes leaves nodes
nodes_from-tree boxes ended leaves number [] nodes few e = absurd cc
nodes_from-tree [] ended leaves number (line ∷ lines) nodes few e =
    by_end (λ bs l. nodes_from bs ended l (number + 1) lines) (λ bs l more few is. nodes_from-tree bs ended l (number + 1) lines more few is)
    leaves number (is_end_line leaves (words_of line)) ((length lines == 0) && ended) nodes few e
nodes_from-tree (b ∷ boxes) ended leaves number (line ∷ lines) nodes few e =
    by_node (λ bs l. nodes_from bs ended l (number + 1) lines) (λ bs l more few is. nodes_from-tree bs ended l (number + 1) lines more few is)
    b boxes leaves number (words_of line) (node_for b (words_of line)) nodes few refl e

-- ---- a node and the boxes that are left

-- what is read for a box
read_for : (leaves number : ℕ) (o : Option (Node StopText)) (node : Node StopText) → node_or_fault leaves number o ≡ Ok (Some node) → o ≡ Some node
read_for leaves number None node e = absurd cc
read_for leaves number (Some (Cut s c)) node e = cc
read_for leaves number (Some (Leaf told)) node e = by (nat_lt leaves leaf_limit) e
  where
    by : (t : Bool) → cond t (Ok (Some (Leaf told))) (Err (faults.TooManyBoxes number)) ≡ Ok (Some node) → Some (Leaf told) ≡ Some node
    by true f = cc
    by false f = absurd cc

-- where no box is left there is no node
none_ends : (end last : Bool) (number : ℕ) (node : Node StopText) → cond end (cond last (Ok None) (Err (faults.BadLine (number + 1)))) (Err (faults.BadLine number)) ≡ Ok (Some node) → ⊥
none_ends true true number node e = cc
none_ends true false number node e = cc
none_ends false last number node e = cc

-- what was read for the first box that was asked for
pub read-first : (first : Option Box5) (boxes : List Box5) (leaves number : ℕ) (last : Bool) (words : List (List ℕ)) (read meant : Option (Node StopText))
    → first ≡ slice_get boxes 0 → node_or_end first leaves number last words ≡ Ok read → read ≡ meant → node_or_end (slice_get boxes 0) leaves number last words ≡ Ok meant
read-first first boxes leaves number last words read meant at says is =
    ap (λ (b : Option Box5). node_or_end b leaves number last words) (sym at) ∙ (says ∙ ap (λ (o : Option (Node StopText)). Ok o) is)

-- a node that is read divides the first box, or is a leaf
pub can_pass-read : (boxes : List Box5) (leaves number : ℕ) (last : Bool) (words : List (List ℕ)) (node : Node StopText) → node_or_end (slice_get boxes 0) leaves number last words ≡ Ok (Some node) → CanPass node boxes
can_pass-read boxes leaves number last words (Leaf told) e = tt
can_pass-read [] leaves number last words (Cut s c) e = none_ends (is_end_line leaves words) last number (Cut s c) e
can_pass-read (b ∷ boxes) leaves number last words (Cut s c) e = node_for-fits b words (Cut s c) (read_for leaves number (node_for b words) (Cut s c) e)

-- a leaf that is read is one of so many
few_for : (leaves number : ℕ) (o : Option (Node StopText)) (told : StopText) → node_or_fault leaves number o ≡ Ok (Some (Leaf told)) → leaves < leaf_limit
few_for leaves number None told e = absurd cc
few_for leaves number (Some (Cut s c)) told e = absurd cc
few_for leaves number (Some (Leaf other)) told e = by (nat_lt leaves leaf_limit) refl e
  where
    by : (t : Bool) → nat_lt leaves leaf_limit ≡ t → cond t (Ok (Some (Leaf other))) (Err (faults.TooManyBoxes number)) ≡ Ok (Some (Leaf told)) → leaves < leaf_limit
    by true lt f = ltb-true leaves leaf_limit lt
    by false lt f = absurd cc

pub leaves_after-read : (boxes : List Box5) (leaves number : ℕ) (last : Bool) (words : List (List ℕ)) (node : Node StopText) → leaves ≤ leaf_limit
    → node_or_end (slice_get boxes 0) leaves number last words ≡ Ok (Some node) → leaves_after (Ok (Some node)) leaves ≤ leaf_limit
leaves_after-read boxes leaves number last words (Cut s c) few e = few
leaves_after-read [] leaves number last words (Leaf told) few e = absurd (none_ends (is_end_line leaves words) last number (Leaf told) e)
leaves_after-read (b ∷ boxes) leaves number last words (Leaf told) few e = let less = few_for leaves number (node_for b words) told e in omega (arith, less)

-- what is left after a cut, and after a leaf
pub after_cut : (s : _) (c : ℕ) (old new : List Box5) → IsCutAt s c old new → new ≡ boxes_after (Ok (Some (Cut s c))) old
after_cut s c [] new is = absurd is
after_cut s c (b ∷ boxes) new is = is

pub after_leaf : (told : StopText) (old new : List Box5) → IsLeft old new → new ≡ boxes_after (Ok (Some (Leaf told))) old
after_leaf told [] new is = is
after_leaf told (b ∷ boxes) new is = is

-- ---- one line more

-- what remains begins with what the next line says
nodes_from-line : (boxes : List Box5) (ended last : Bool) (leaves number : ℕ) (lines : List (Bor (List ℕ))) (k : ℕ) (line d : Bor (List ℕ)) → k < length lines → line ≡ get_or lines k d
    → last ≡ ((k + 1 == length lines) && ended)
    → nodes_from boxes ended leaves number (map (λ t. t.now) (drop k lines))
    ≡ (let next = next_node boxes leaves number last line.now in node_before next (nodes_from (boxes_after next boxes) ended (leaves_after next leaves) (number + 1) (map (λ t. t.now) (drop (k + 1) lines))))
nodes_from-line boxes ended last leaves number lines k line d within at is =
    let rest = map (λ (t : Bor (List ℕ)). t.now) (drop (k + 1) lines) in
    ap (λ (xs : List (Bor (List ℕ))). nodes_from boxes ended leaves number (map (λ t. t.now) xs)) (drop-next lines k line within (at ∙ get_or_default lines k d line within))
    ∙ ap (λ (b : Bool). let next = next_node boxes leaves number b line.now in node_before next (nodes_from (boxes_after next boxes) ended (leaves_after next leaves) (number + 1) rest))
    (ap (λ (b : Bool). b && ended) (last_line lines k within) ∙ sym is)

module _ (boxes : List Box5) (ended last : Bool) (leaves number : ℕ) (lines : List (Bor (List ℕ))) (k : ℕ) (d : Bor (List ℕ)) (nodes : List (Node StopText)) (meant : Result (List (Node StopText)) ReportFault)
    (within : k < length lines) (is : last ≡ ((k + 1 == length lines) && ended)) (so_far : after_rows nodes (nodes_from boxes ended leaves number (map (λ t. t.now) (drop k lines))) ≡ meant) where
  abbrev said : Result (Option (Node StopText)) ReportFault
  said = let b : Bor (List ℕ) = get_or lines k d in next_node boxes leaves number last b.now

  abbrev from : Result (Option (Node StopText)) ReportFault → Result (List (Node StopText)) ReportFault
  from next = after_rows nodes (node_before next (nodes_from (boxes_after next boxes) ended (leaves_after next leaves) (number + 1) (map (λ (t : Bor (List ℕ)). t.now) (drop (k + 1) lines))))

  remaining : (next : Result (Option (Node StopText)) ReportFault) → said ≡ next → from next ≡ meant
  remaining next e =
      ap from (sym e)
      ∙ (ap (λ (r : Result (List (Node StopText)) ReportFault). after_rows nodes r) (sym (nodes_from-line boxes ended last leaves number lines k (get_or lines k d) d within refl is)) ∙ so_far)

  -- a node is read
  pub nodes-next : (all : List (Node StopText)) (node : Node StopText) → said ≡ Ok (Some node) → all ≡ nodes ++ node ∷ []
      → after_rows all (nodes_from (boxes_after (Ok (Some node)) boxes) ended (leaves_after (Ok (Some node)) leaves) (number + 1) (map (λ t. t.now) (drop (k + 1) lines))) ≡ meant
  nodes-next all node e are =
      let rest = nodes_from (boxes_after (Ok (Some node)) boxes) ended (leaves_after (Ok (Some node)) leaves) (number + 1) (map (λ (t : Bor (List ℕ)). t.now) (drop (k + 1) lines)) in
      ap (λ (r : List (Node StopText)). after_rows r rest) are ∙ (sym (after_nodes-node rest) ∙ remaining (Ok (Some node)) e)
    where
      after_nodes-node : (r : Result (List (Node StopText)) ReportFault) → after_rows nodes (node_before (Ok (Some node)) r) ≡ after_rows (nodes ++ node ∷ []) r
      after_nodes-node (Ok more) = ap (λ (xs : List (Node StopText)). Ok xs) (sym (append_assoc nodes (node ∷ []) more))
      after_nodes-node (Err fault) = refl

  -- the report ends
  pub nodes-end : (all : List (Node StopText)) → said ≡ Ok None → all ≡ nodes → meant ≡ Ok all
  nodes-end all e are = sym (remaining (Ok None) e) ∙ (ap (λ (xs : List (Node StopText)). Ok xs) (append-nil nodes) ∙ ap (λ (xs : List (Node StopText)). Ok xs) (sym are))

  -- a fault that was told is meant
  pub nodes-refused : (fault : ReportFault) (result : Result (List (Node StopText)) ReportFault) → IsRead said (Err fault) → IsErrAnd result (λ e. e ≡ fault) → IsRead meant result
  nodes-refused fault (Ok all) told same = absurd same
  nodes-refused fault (Err e) told same = subst (λ (f : ReportFault). IsRead meant (Err f)) (sym same) (by fault told)
    where
      by : (f : ReportFault) → IsRead said (Err f) → IsRead meant (Err f)
      by (faults.BadLine n) t = sym (remaining (Err (faults.BadLine n)) t)
      by (faults.TooManyBoxes n) t = sym (remaining (Err (faults.TooManyBoxes n)) t)
      by faults.Memory t = tt

-- what remains, told by other words
pub nodes-told : (ended : Bool) (all : List (Node StopText)) (lines : List (List ℕ)) (told boxes : List Box5) (count leaves at number : ℕ) (meant : Result (List (Node StopText)) ReportFault)
    → told ≡ boxes → count ≡ leaves → at ≡ number → after_rows all (nodes_from boxes ended leaves number lines) ≡ meant → after_rows all (nodes_from told ended count at lines) ≡ meant
nodes-told ended all lines told boxes count leaves at number meant boxes_are leaves_are number_is so_far = rw (boxes_are, leaves_are, number_is) so_far

-- no line is left
pub nodes-missing : (boxes : List Box5) (ended : Bool) (leaves number : ℕ) (lines : List (Bor (List ℕ))) (k : ℕ) (nodes : List (Node StopText)) (meant : Result (List (Node StopText)) ReportFault)
    → length lines ≤ k → after_rows nodes (nodes_from boxes ended leaves number (map (λ t. t.now) (drop k lines))) ≡ meant → meant ≡ Err (faults.BadLine number)
nodes-missing boxes ended leaves number lines k nodes meant past so_far =
    sym so_far ∙ ap (λ (xs : List (Bor (List ℕ))). after_rows nodes (nodes_from boxes ended leaves number (map (λ t. t.now) xs))) (drop_all k lines past)
