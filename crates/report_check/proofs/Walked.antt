-- The leaves of a tree, walked through one after the other.
use Rattle.std.proofs.Common.{◌≡◌, ℕ, ◌≤◌, ◌<◌, ◌+◌, ◌++◌, ◌∙◌, All, List, None, Option, Some, [], ◌∷◌, ap, append_assoc, arith, drop, length, refl, subst, sym, take, true}
use Rattle.std.specs.Prelude.{IsSome, slice_get, slice_index_or}
use Rattle.std.specs.Cmp.{first_so, second_so}
use Rattle.std.proofs.Math.Seq.{get_or-append_seam, take-append_seam}
use Rattle.vpc_base.proofs.Lemmas.{All-nil, All-push, append-nil, drop_all, length-append}
use Rattle.vpc_base.proofs.Steps.{drop-next}
use Rattle.header_boxes.specs.Boxes.{IsValid, IsWithin}
use Rattle.header_boxes.specs.Rows.{HasWord}
use Rattle.header_boxes.proofs.Held.{valid_if_within}
use Rattle.box_images.specs.Fields.{side_of}
use Rattle.box_images.specs.declared.fields.Side.{Side}
use Rattle.ordered_cover.specs.Trees.{IsCutTree, divides, leaf_count, leaves_of, leaves_over, part_below, part_from, stand_for}
use Rattle.ordered_cover.specs.Walk.{CanBeCut, IsCutAt, IsLeft}
use Rattle.ordered_cover.specs.declared.trees.Node.{Node}
use Rattle.ordered_cover.specs.declared.trees.Node.TheVariants.{Cut, Leaf}
use Rattle.ordered_cover.proofs.Leaves.{leaves_lie_within}
use Rattle.report_reader.specs.Nodes.{leaf_limit}
use Rattle.report_reader.specs.Reports.{rows_of}
use Rattle.report_reader.specs.declared.report.Report.{Report}
use Rattle.vpc_laws.specs.Types.{Box5, Description, Row, StopText}
use Rattle.report_check.specs.Checked.{AreTrue, meaning_in}

-- some leaves are true, and the nodes that are left stand for these boxes
pub record IsWalked (d : Description) (r : Report) (left : List (Node StopText)) (boxes : List Box5) (number : ℕ) : Type 0 where
  pub done : List (Row StopText)
  pub stand : stand_for left boxes ≡ true
  pub rows : done ++ leaves_over left boxes ≡ rows_of r
  pub are_true : AreTrue d r done
  pub count : number ≡ length done
  pub few : number + leaf_count left ≤ leaf_limit

pub walked_at_start : (d : Description) (r : Report) (nodes : List (Node StopText)) → IsCutTree nodes r.sides → leaves_of nodes r.sides ≡ rows_of r → leaf_count nodes ≤ leaf_limit
    → IsWalked d r nodes (r.sides ∷ []) 0
walked_at_start d r nodes tree rows few = record { done = []; stand = tree; rows = rows; are_true = All-nil (HasWord (meaning_in d r)); count = refl; few = omega (arith, few) }

-- a leaf is the next row
pub record IsNextLeaf (d : Description) (r : Report) (number : ℕ) (row : Row StopText) : Type 0 where
  pub below : number < length (rows_of r)
  pub stands : row ≡ slice_index_or (rows_of r) number row
  pub before : AreTrue d r (take number (rows_of r))

-- ---- a node

module _ {d : Description} {r : Report} where
  -- the next node comes before the others that are left
  pub walked_to : (nodes : List (Node StopText)) (i : ℕ) (node : Node StopText) (boxes : List Box5) (number : ℕ) → i < length nodes → node ≡ slice_index_or nodes i node
      → IsWalked d r (drop i nodes) boxes number → IsWalked d r (node ∷ drop (i + 1) nodes) boxes number
  walked_to nodes i node boxes number below at w = subst (λ (left : List (Node StopText)). IsWalked d r left boxes number) (drop-next nodes i node below at) w

-- ---- a cut

pub can_be_cut : (s : Side) (c : ℕ) (nodes : List (Node StopText)) (boxes : List Box5) → stand_for (Cut s c ∷ nodes) boxes ≡ true → CanBeCut s c boxes
can_be_cut s c nodes [] t = absurd cc
can_be_cut s c nodes (b ∷ boxes) t = first_so (divides c (side_of b s)) (stand_for nodes (part_below b s c ∷ (part_from b s c ∷ boxes))) t

module _ {d : Description} {r : Report} where
  pub walked_cut : (s : Side) (c : ℕ) (nodes : List (Node StopText)) (boxes new : List Box5) (number : ℕ) → IsWalked d r (Cut s c ∷ nodes) boxes number → IsCutAt s c boxes new → IsWalked d r nodes new number
  walked_cut s c nodes [] new number w cut = absurd cut
  walked_cut s c nodes (b ∷ boxes) new number w cut =
      subst (λ v. IsWalked d r nodes v number) (sym cut) (record {
        done = w.done;
        stand = second_so (divides c (side_of b s)) (stand_for nodes (part_below b s c ∷ (part_from b s c ∷ boxes))) w.stand;
        rows = w.rows;
        are_true = w.are_true;
        count = w.count;
        few = w.few;
      })

  -- ---- a leaf

  pub leaf_has_box : (t : StopText) (nodes : List (Node StopText)) (boxes : List Box5) (number : ℕ) → IsWalked d r (Leaf t ∷ nodes) boxes number → IsSome (slice_get boxes 0)
  leaf_has_box t nodes [] number w = let e = w.stand in absurd cc
  leaf_has_box t nodes (b ∷ boxes) number w = refl

  pub next_leaf : (t : StopText) (nodes : List (Node StopText)) (boxes : List Box5) (number : ℕ) (part : Box5) → IsWalked d r (Leaf t ∷ nodes) boxes number → slice_get boxes 0 ≡ Some part
      → IsNextLeaf d r number (record { part = part; word = t })
  next_leaf t nodes [] number part w at = absurd cc
  next_leaf t nodes (b ∷ boxes) number part w at =
      let same : b ≡ part = cc in
      let row : Row StopText = record { part = b; word = t } in
      let rest = leaves_over nodes boxes in
      let count = w.count in
      let l = length-append w.done (row ∷ rest) in
      let all = ap length w.rows in
      subst (λ (x : Box5). IsNextLeaf d r number (record { part = x; word = t })) same (record {
        below = omega (arith, count, l, all);
        stands = sym (ap (λ (n : ℕ). slice_index_or (rows_of r) n row) count ∙ (ap (λ (xs : List (Row StopText)). slice_index_or xs (length w.done) row) (sym w.rows) ∙ get_or-append_seam w.done row rest row));
        before = subst (AreTrue d r) (sym (ap (λ (n : ℕ). take n (rows_of r)) count ∙ (ap (take (length w.done)) (sym w.rows) ∙ take-append_seam w.done (row ∷ rest)))) w.are_true;
      })

  -- it has a number, and its box is valid
  pub leaf_number : (t : StopText) (nodes : List (Node StopText)) (boxes : List Box5) (number : ℕ) → IsWalked d r (Leaf t ∷ nodes) boxes number → number + 1 ≤ leaf_limit
  leaf_number t nodes boxes number w = let few = w.few in omega (arith, few)

  pub leaf_is_valid : (nodes : List (Node StopText)) (number : ℕ) (row : Row StopText) → IsCutTree nodes r.sides → IsValid r.sides → leaves_of nodes r.sides ≡ rows_of r
      → IsNextLeaf d r number row → IsValid row.part
  leaf_is_valid nodes number row tree valid are next =
      let within = subst (All (λ (x : Row StopText). IsWithin x.part r.sides)) are (leaves_lie_within nodes r.sides tree valid) in
      valid_if_within row.part r.sides (subst (λ (x : Row StopText). IsWithin x.part r.sides) (sym next.stands) (within number row next.below))

  pub walked_leaf : (t : StopText) (nodes : List (Node StopText)) (boxes new : List Box5) (number : ℕ) (part : Box5) → IsWalked d r (Leaf t ∷ nodes) boxes number → slice_get boxes 0 ≡ Some part
      → IsLeft boxes new → HasWord (meaning_in d r) (record { part = part; word = t }) → IsWalked d r nodes new (number + 1)
  walked_leaf t nodes [] new number part w at left word = absurd cc
  walked_leaf t nodes (b ∷ boxes) new number part w at left word =
      let same : b ≡ part = cc in
      let row : Row StopText = record { part = b; word = t } in
      let count = w.count in
      let few = w.few in
      let l = length-append w.done (row ∷ []) in
      subst (λ v. IsWalked d r nodes v (number + 1)) (sym left) (record {
        done = w.done ++ row ∷ [];
        stand = w.stand;
        rows = append_assoc w.done (row ∷ []) (leaves_over nodes boxes) ∙ w.rows;
        are_true = All-push (HasWord (meaning_in d r)) w.done row w.are_true (subst (λ (x : Box5). HasWord (meaning_in d r) (record { part = x; word = t })) (sym same) word);
        count = omega (arith, count, l);
        few = omega (arith, few);
      })

  -- ---- the end

  pub walked_all : (boxes : List Box5) (number : ℕ) → IsWalked d r [] boxes number → AreTrue d r (rows_of r)
  walked_all boxes number w = subst (AreTrue d r) (sym (append-nil w.done) ∙ w.rows) w.are_true

  -- no node is left
  pub walked_through : (nodes : List (Node StopText)) (i : ℕ) (boxes : List Box5) (number : ℕ) → length nodes ≤ i → IsWalked d r (drop i nodes) boxes number → AreTrue d r (rows_of r)
  walked_through nodes i boxes number past w =
      walked_all boxes number (subst (λ (left : List (Node StopText)). IsWalked d r left boxes number) (drop_all i nodes past) w)
