-- The leaves of a cut tree: boxes inside that of the tree, which hold each of its headers once.
use Rattle.std.proofs.Common.{◌≡◌, ℕ, ◌≤◌, ◌<◌, ◌+◌, ◌-◌, ◌&&◌, AllPairs, List, [], ◌∷◌, ap, arith, length, refl, true}
use Rattle.std.proofs.lemmas.List.Kept.{AllPairs-cons}
use Rattle.std.specs.Cmp.{first_so, second_so}
use Rattle.std.specs.List.{AllByRecursion}
use Rattle.vpc_base.proofs.Lemmas.{All-from_recursion, nat_tests, sum_by-cons}
use Rattle.vpc_base.specs.declared.headers.Header.{Header}
use Rattle.header_boxes.specs.Boxes.{AreDisjoint, IsRangeWithin, IsWithin, holds, in_range}
use Rattle.header_boxes.specs.declared.boxes.Box5.{Box5}
use Rattle.header_boxes.specs.declared.rows.Row.{Row}
use Rattle.header_boxes.proofs.Held.{within_itself}
use Rattle.box_images.specs.Fields.{side_of}
use Rattle.box_images.specs.declared.fields.Side.{Side}
use Rattle.box_images.specs.declared.fields.Side.TheVariants.{Proto, Src, Dst, P, Q}
use Rattle.ordered_cover.specs.Open.{holders, one_if, row_holders}
use Rattle.ordered_cover.specs.Trees.{divides, leaf_count, leaves_of, leaves_over, part_below, part_from, stand_for}
use Rattle.ordered_cover.specs.TreeLaws.{LeavesAreApart, LeavesAreCounted, LeavesAreWhole, LeavesHoldOnce, LeavesLieWithin, TreesAreReports}
use Rattle.ordered_cover.specs.declared.trees.Node.{Node}
use Rattle.ordered_cover.specs.declared.trees.Node.TheVariants.{Cut, Leaf}
use Rattle.ordered_cover.proofs.Joined.{both_one, one_both, one_range}
use Rattle.ordered_cover.proofs.Lists.{any_from_one, at_most_one, one_at}

-- ---- the two parts of a box that is cut

-- what a number tells that divides a range
divided : (c : ℕ) (r : ℕ × ℕ) → divides c r ≡ true → (r.0 < c) × (c ≤ r.1)
divided c r t = (grind (arith, nat_tests), grind (arith, nat_tests))

range_below : (c : ℕ) (r whole : ℕ × ℕ) → (r.0 < c) × (c ≤ r.1) → IsRangeWithin r whole → IsRangeWithin (r.0, c - 1) whole
range_below c r whole d k =
    let b = k.begins in
    let e = k.ends in
    let l = d.0 in
    let h = d.1 in
    record { begins = b; valid = omega (arith, l); ends = omega (arith, l, h, e) }

range_from : (c : ℕ) (r whole : ℕ × ℕ) → (r.0 < c) × (c ≤ r.1) → IsRangeWithin r whole → IsRangeWithin (c, r.1) whole
range_from c r whole d k =
    let b = k.begins in
    let e = k.ends in
    let l = d.0 in
    let h = d.1 in
    record { begins = omega (arith, b, l); valid = h; ends = e }

below_within : (b whole : Box5) (s : Side) (c : ℕ) → (let r = side_of b s in (r.0 < c) × (c ≤ r.1)) → IsWithin b whole → IsWithin (part_below b s c) whole
below_within b whole Proto c d w = record { proto = range_below c b.proto whole.proto d w.proto; src = w.src; dst = w.dst; p = w.p; q = w.q }
below_within b whole Src c d w = record { proto = w.proto; src = range_below c b.src whole.src d w.src; dst = w.dst; p = w.p; q = w.q }
below_within b whole Dst c d w = record { proto = w.proto; src = w.src; dst = range_below c b.dst whole.dst d w.dst; p = w.p; q = w.q }
below_within b whole P c d w = record { proto = w.proto; src = w.src; dst = w.dst; p = range_below c b.p whole.p d w.p; q = w.q }
below_within b whole Q c d w = record { proto = w.proto; src = w.src; dst = w.dst; p = w.p; q = range_below c b.q whole.q d w.q }

from_within : (b whole : Box5) (s : Side) (c : ℕ) → (let r = side_of b s in (r.0 < c) × (c ≤ r.1)) → IsWithin b whole → IsWithin (part_from b s c) whole
from_within b whole Proto c d w = record { proto = range_from c b.proto whole.proto d w.proto; src = w.src; dst = w.dst; p = w.p; q = w.q }
from_within b whole Src c d w = record { proto = w.proto; src = range_from c b.src whole.src d w.src; dst = w.dst; p = w.p; q = w.q }
from_within b whole Dst c d w = record { proto = w.proto; src = w.src; dst = range_from c b.dst whole.dst d w.dst; p = w.p; q = w.q }
from_within b whole P c d w = record { proto = w.proto; src = w.src; dst = w.dst; p = range_from c b.p whole.p d w.p; q = w.q }
from_within b whole Q c d w = record { proto = w.proto; src = w.src; dst = w.dst; p = w.p; q = range_from c b.q whole.q d w.q }

-- a number is in the one range or in the other
range_parted : (c : ℕ) (r : ℕ × ℕ) (x : ℕ) → (r.0 < c) × (c ≤ r.1) → one_if (in_range r x) ≡ one_if (in_range (r.0, c - 1) x) + one_if (in_range (c, r.1) x)
range_parted c r x d =
    let l = d.0 in
    let h = d.1 in
    one_range (r.0, c - 1) (c, r.1) x (omega (arith, l)) h (omega (arith, l))

-- a header is in the one part or in the other
held_parted : (b : Box5) (s : Side) (c : ℕ) (h : Header) → (let r = side_of b s in (r.0 < c) × (c ≤ r.1))
    → one_if (holds h b) ≡ one_if (holds h (part_below b s c)) + one_if (holds h (part_from b s c))
held_parted b Proto c h d =
    let all = in_range b.proto h.proto in
    let low = in_range (b.proto.0, c - 1) h.proto in
    let high = in_range (c, b.proto.1) h.proto in
    let rest = in_range b.src h.src && (in_range b.dst h.dst && (in_range b.p h.p && in_range b.q h.q)) in
    both_one all low high rest rest (range_parted c b.proto h.proto d) refl
held_parted b Src c h d =
    let at_proto = in_range b.proto h.proto in
    let all = in_range b.src h.src in
    let low = in_range (b.src.0, c - 1) h.src in
    let high = in_range (c, b.src.1) h.src in
    let rest = in_range b.dst h.dst && (in_range b.p h.p && in_range b.q h.q) in
    one_both at_proto at_proto (all && rest) (low && rest) (high && rest) refl
    (both_one all low high rest rest (range_parted c b.src h.src d) refl)
held_parted b Dst c h d =
    let at_proto = in_range b.proto h.proto in
    let at_src = in_range b.src h.src in
    let all = in_range b.dst h.dst in
    let low = in_range (b.dst.0, c - 1) h.dst in
    let high = in_range (c, b.dst.1) h.dst in
    let rest = in_range b.p h.p && in_range b.q h.q in
    one_both at_proto at_proto (at_src && (all && rest)) (at_src && (low && rest)) (at_src && (high && rest)) refl
    (one_both at_src at_src (all && rest) (low && rest) (high && rest) refl
    (both_one all low high rest rest (range_parted c b.dst h.dst d) refl))
held_parted b P c h d =
    let at_proto = in_range b.proto h.proto in
    let at_src = in_range b.src h.src in
    let at_dst = in_range b.dst h.dst in
    let all = in_range b.p h.p in
    let low = in_range (b.p.0, c - 1) h.p in
    let high = in_range (c, b.p.1) h.p in
    let rest = in_range b.q h.q in
    one_both at_proto at_proto (at_src && (at_dst && (all && rest))) (at_src && (at_dst && (low && rest))) (at_src && (at_dst && (high && rest))) refl
    (one_both at_src at_src (at_dst && (all && rest)) (at_dst && (low && rest)) (at_dst && (high && rest)) refl
    (one_both at_dst at_dst (all && rest) (low && rest) (high && rest) refl
    (both_one all low high rest rest (range_parted c b.p h.p d) refl)))
held_parted b Q c h d =
    let at_proto = in_range b.proto h.proto in
    let at_src = in_range b.src h.src in
    let at_dst = in_range b.dst h.dst in
    let at_p = in_range b.p h.p in
    let all = in_range b.q h.q in
    let low = in_range (b.q.0, c - 1) h.q in
    let high = in_range (c, b.q.1) h.q in
    one_both at_proto at_proto (at_src && (at_dst && (at_p && all))) (at_src && (at_dst && (at_p && low))) (at_src && (at_dst && (at_p && high))) refl
    (one_both at_src at_src (at_dst && (at_p && all)) (at_dst && (at_p && low)) (at_dst && (at_p && high)) refl
    (one_both at_dst at_dst (at_p && all) (at_p && low) (at_p && high) refl
    (one_both at_p at_p all low high refl
    (range_parted c b.q h.q d))))

-- ---- all leaves

module _ {W : Type 0} where
  -- nodes that stand for some boxes
  first_divides : (s : Side) (c : ℕ) (b : Box5) (nodes : List (Node W)) (boxes : List Box5) → stand_for (Cut s c ∷ nodes) (b ∷ boxes) ≡ true
      → (let r = side_of b s in (r.0 < c) × (c ≤ r.1))
  first_divides s c b nodes boxes t = divided c (side_of b s) (first_so (divides c (side_of b s)) (stand_for nodes (part_below b s c ∷ (part_from b s c ∷ boxes))) t)

  rest_stands : (s : Side) (c : ℕ) (b : Box5) (nodes : List (Node W)) (boxes : List Box5) → stand_for (Cut s c ∷ nodes) (b ∷ boxes) ≡ true
      → stand_for nodes (part_below b s c ∷ (part_from b s c ∷ boxes)) ≡ true
  rest_stands s c b nodes boxes t = second_so (divides c (side_of b s)) (stand_for nodes (part_below b s c ∷ (part_from b s c ∷ boxes))) t

  leaves_within : (whole : Box5) (nodes : List (Node W)) (boxes : List Box5) → stand_for nodes boxes ≡ true → AllByRecursion (λ b. IsWithin b whole) boxes
      → AllByRecursion (λ leaf. IsWithin leaf.part whole) (leaves_over nodes boxes)
  leaves_within whole [] boxes t all = tt
  leaves_within whole (node ∷ nodes) [] t all = tt
  leaves_within whole (Leaf w ∷ nodes) (b ∷ boxes) t all = (all.0, leaves_within whole nodes boxes t all.1)
  leaves_within whole (Cut s c ∷ nodes) (b ∷ boxes) t all =
      let d = first_divides s c b nodes boxes t in
      leaves_within whole nodes (part_below b s c ∷ (part_from b s c ∷ boxes)) (rest_stands s c b nodes boxes t) (below_within b whole s c d all.0, (from_within b whole s c d all.0, all.1))

  row_holders-leaves_over : (h : Header) (nodes : List (Node W)) (boxes : List Box5) → stand_for nodes boxes ≡ true → row_holders (leaves_over nodes boxes) h ≡ holders boxes h
  row_holders-leaves_over h [] [] t = refl
  row_holders-leaves_over h [] (b ∷ boxes) t = absurd cc
  row_holders-leaves_over h (node ∷ nodes) [] t = absurd cc
  row_holders-leaves_over h (Leaf w ∷ nodes) (b ∷ boxes) t =
      let s = sum_by-cons (λ (r : Row W). one_if (holds h r.part)) (record { part = b; word = w }) (leaves_over nodes boxes) in
      let c = sum_by-cons (λ b. one_if (holds h b)) b boxes in
      let rest = row_holders-leaves_over h nodes boxes t in
      omega (arith, s, c, rest)
  row_holders-leaves_over h (Cut s c ∷ nodes) (b ∷ boxes) t =
      let d = first_divides s c b nodes boxes t in
      let rest = row_holders-leaves_over h nodes (part_below b s c ∷ (part_from b s c ∷ boxes)) (rest_stands s c b nodes boxes t) in
      let one = sum_by-cons (λ b. one_if (holds h b)) (part_below b s c) (part_from b s c ∷ boxes) in
      let two = sum_by-cons (λ b. one_if (holds h b)) (part_from b s c) boxes in
      let all = sum_by-cons (λ b. one_if (holds h b)) b boxes in
      let parted = held_parted b s c h d in
      omega (arith, rest, one, two, all, parted)

  -- rows that hold each header at most once are disjoint
  disjoint_if_once : (rows : List (Row W)) → ((h : Header) → row_holders rows h ≤ 1) → AllPairs (λ a b. AreDisjoint a.part b.part) rows
  disjoint_if_once [] once = λ i j d lt inside. absurd (omega (arith, inside))
  disjoint_if_once (row ∷ rows) once =
      AllPairs-cons (λ a b. AreDisjoint a.part b.part) row rows
      (λ k d lt h first second.
      let o = once h in
      let s = sum_by-cons (λ (r : Row W). one_if (holds h r.part)) row rows in
      let one = ap one_if first in
      let other = one_at (λ (r : Row W). holds h r.part) rows k d lt second in
      absurd (omega (arith, o, s, one, other)))
      (disjoint_if_once rows (λ h. let o = once h in let s = sum_by-cons (λ (r : Row W). one_if (holds h r.part)) row rows in omega (arith, o, s)))

-- ---- the leaves of a tree

pub leaves_lie_within : {W : Type 0} → LeavesLieWithin W
leaves_lie_within nodes box tree valid =
    All-from_recursion (λ leaf. IsWithin leaf.part box) (leaves_of nodes box) (leaves_within box nodes (box ∷ []) tree (within_itself box valid, tt))

pub leaves_hold_once : {W : Type 0} → LeavesHoldOnce W
leaves_hold_once nodes box h tree =
    let s = sum_by-cons (λ b. one_if (holds h b)) box [] in
    let l = row_holders-leaves_over h nodes (box ∷ []) tree in
    omega (arith, s, l)

pub leaves_are_apart : {W : Type 0} → LeavesAreApart W
leaves_are_apart nodes box tree =
    disjoint_if_once (leaves_of nodes box) (λ h. let o = leaves_hold_once nodes box h tree in let m = at_most_one (holds h box) in omega (arith, o, m))

pub leaves_are_whole : {W : Type 0} → LeavesAreWhole W
leaves_are_whole nodes box tree h inside =
    let o = leaves_hold_once nodes box h tree in
    let one = ap one_if inside in
    any_from_one (λ leaf. holds h leaf.part) (leaves_of nodes box) (omega (arith, o, one))

pub trees_are_reports : {W : Type 0} → TreesAreReports W
trees_are_reports meaning nodes box tree valid words = record {
  are_true = record { within = leaves_lie_within nodes box tree valid; disjoint = leaves_are_apart nodes box tree; word = words };
  holds_all = leaves_are_whole nodes box tree;
}

-- so many as are counted
pub length-leaves_over : {W : Type 0} (nodes : List (Node W)) (boxes : List Box5) → stand_for nodes boxes ≡ true → length (leaves_over nodes boxes) ≡ leaf_count nodes
length-leaves_over [] boxes t = refl
length-leaves_over (node ∷ nodes) [] t = absurd cc
length-leaves_over (Leaf w ∷ nodes) (b ∷ boxes) t = let rest = length-leaves_over nodes boxes t in omega (arith, rest)
length-leaves_over (Cut s c ∷ nodes) (b ∷ boxes) t = length-leaves_over nodes (part_below b s c ∷ (part_from b s c ∷ boxes)) (rest_stands s c b nodes boxes t)

pub leaves_are_counted : {W : Type 0} → LeavesAreCounted W
leaves_are_counted nodes box tree = length-leaves_over nodes (box ∷ []) tree
