-- Which boxes share a header with a cell.
use Rattle.std.proofs.Common.{◌≡◌, ℕ, ◌≤◌, ◌&&◌, nat_le, max, min, true, Option, None, Some, List, arith, sym, subst, ◌∙◌}
use Rattle.std.proofs.lemmas.Bool.Decides.{nat_tests}
use Rattle.std.specs.Cmp.{first_so, second_so}
use Rattle.std.specs.Option.{IsSomeAnd}
use Rattle.std.specs.List.{slice_get}
use Rattle.std.proofs.lemmas.Bool.{and_from}
use Rattle.vpc_base.specs.declared.headers.Header.{Header}
use Rattle.header_boxes.specs.declared.boxes.Box5.{Box5}
use Rattle.header_boxes.specs.Boxes.{holds, IsValid, IsRangeWithin, IsWithin, common_box, low_of}
use Rattle.header_boxes.proofs.Held.{holds-common_box, holds_low, holds_whole, valid_if_holds}
use Rattle.box_survey.specs.Survey.{HoldsAt}
use Rattle.box_survey.specs.Cells.{HoldsCell, do_ranges_meet, do_meet, does_some_meet, meets_at, holds_range, holds_sides}

-- ---- two boxes

common_valid : (a b : ℕ × ℕ) → do_ranges_meet a b ≡ true → max a.0 b.0 ≤ min a.1 b.1
common_valid a b h = grind (arith, nat_tests)

ranges_meet : (a b : ℕ × ℕ) → max a.0 b.0 ≤ min a.1 b.1 → do_ranges_meet a b ≡ true
ranges_meet a b h = grind (arith, nat_tests)

valid_if_meet : (a b : Box5) → do_meet a b ≡ true → IsValid (common_box a b)
valid_if_meet a b t =
    let r0 = second_so (do_ranges_meet a.proto b.proto) _ t in
    let r1 = second_so (do_ranges_meet a.src b.src) _ r0 in
    let r2 = second_so (do_ranges_meet a.dst b.dst) _ r1 in
    record {
      proto = common_valid a.proto b.proto (first_so (do_ranges_meet a.proto b.proto) _ t);
      src = common_valid a.src b.src (first_so (do_ranges_meet a.src b.src) _ r0);
      dst = common_valid a.dst b.dst (first_so (do_ranges_meet a.dst b.dst) _ r1);
      p = common_valid a.p b.p (first_so (do_ranges_meet a.p b.p) _ r2);
      q = common_valid a.q b.q (second_so (do_ranges_meet a.p b.p) _ r2);
    }

meet_if_valid : (a b : Box5) → IsValid (common_box a b) → do_meet a b ≡ true
meet_if_valid a b v =
    and_from _ _ (ranges_meet a.proto b.proto v.proto)
    (and_from _ _ (ranges_meet a.src b.src v.src)
    (and_from _ _ (ranges_meet a.dst b.dst v.dst)
    (and_from _ _ (ranges_meet a.p b.p v.p) (ranges_meet a.q b.q v.q))))

meet_if_hold : (h : Header) (a b : Box5) → holds h a ≡ true → holds h b ≡ true → do_meet a b ≡ true
meet_if_hold h a b s t = meet_if_valid a b (valid_if_holds h (common_box a b) (holds-common_box h a b ∙ and_from (holds h a) (holds h b) s t))

-- ---- a box that holds a cell

range_within : (b c : ℕ × ℕ) → c.0 ≤ c.1 → holds_range b c ≡ true → IsRangeWithin c b
range_within b c v h =
    let first : nat_le b.0 c.0 ≡ true = first_so (nat_le b.0 c.0) (nat_le c.1 b.1) h in
    let last : nat_le c.1 b.1 ≡ true = second_so (nat_le b.0 c.0) (nat_le c.1 b.1) h in
    record { begins = grind (arith, nat_tests); valid = v; ends = grind (arith, nat_tests) }

within_sides : (b c : Box5) → IsValid c → holds_sides b c ≡ true → IsWithin c b
within_sides b c v t =
    let r0 = second_so (holds_range b.proto c.proto) _ t in
    let r1 = second_so (holds_range b.src c.src) _ r0 in
    let r2 = second_so (holds_range b.dst c.dst) _ r1 in
    record {
      proto = range_within b.proto c.proto v.proto (first_so (holds_range b.proto c.proto) _ t);
      src = range_within b.src c.src v.src (first_so (holds_range b.src c.src) _ r0);
      dst = range_within b.dst c.dst v.dst (first_so (holds_range b.dst c.dst) _ r1);
      p = range_within b.p c.p v.p (first_so (holds_range b.p c.p) _ r2);
      q = range_within b.q c.q v.q (second_so (holds_range b.p c.p) _ r2);
    }

-- a box whose sides hold those of a cell holds its headers
pub holds-sides : (b cell : Box5) → holds_sides b cell ≡ true → (h : Header) → holds h cell ≡ true → holds h b ≡ true
holds-sides b cell t h inside = holds_whole h cell b (within_sides b cell (valid_if_holds h cell inside) t) inside

-- ---- the box of a number

-- a header of the cell in the box of a number
pub record IsHeld (boxes : List Box5) (cell : Box5) (i : ℕ) : Type 0 where
  pub header : Header
  pub inside : holds header cell ≡ true
  pub held : HoldsAt boxes i header

some_meets : (o : Option Box5) (cell : Box5) (h : Header) → holds h cell ≡ true → IsSomeAnd o (λ b. holds h b ≡ true) → does_some_meet cell o ≡ true
some_meets None cell h inside held = absurd held
some_meets (Some b) cell h inside held = meet_if_hold h b cell held inside

pub meets_if_held : (boxes : List Box5) (cell : Box5) (i : ℕ) (h : Header) → holds h cell ≡ true → HoldsAt boxes i h → meets_at boxes cell i ≡ true
meets_if_held boxes cell i h inside held = some_meets (slice_get boxes i) cell h inside held

some_held : (o : Option Box5) (cell : Box5) → does_some_meet cell o ≡ true → (h : Header) × (holds h cell ≡ true) × IsSomeAnd o (λ b. holds h b ≡ true)
some_held None cell t = absurd (cc)
some_held (Some b) cell t =
    let h : Header = low_of (common_box b cell) in
    let e : (holds h b && holds h cell) ≡ true = sym (holds-common_box h b cell) ∙ holds_low (common_box b cell) (valid_if_meet b cell t) in
    (h, second_so (holds h b) (holds h cell) e, first_so (holds h b) (holds h cell) e)

pub held_if_meets : (boxes : List Box5) (cell : Box5) (i : ℕ) → meets_at boxes cell i ≡ true → IsHeld boxes cell i
held_if_meets boxes cell i t = let s = some_held (slice_get boxes i) cell t in record { header = s.0; inside = s.1; held = s.2 }

-- a box whose sides hold those of a cell, by its number
pub holder_at : (boxes : List Box5) (cell : Box5) (i : ℕ) (b : Box5) → slice_get boxes i ≡ Some b → holds_sides b cell ≡ true → HoldsCell boxes cell i
holder_at boxes cell i b e t h inside = subst (λ o. IsSomeAnd o (λ x. holds h x ≡ true)) (sym e) (holds-sides b cell t h inside)
