-- What a survey of the rows' boxes tells of the rows, whatever their words are.
use Rattle.std.proofs.Common.{◌+◌, ◌-◌, ◌<◌, ◌≡◌, ◌≤◌, ◌∙◌, List, None, Option, Some, arith, length, map, refl, subst, sym, true, ℕ}
use Rattle.std.specs.Prelude.{All, AllPairs, IsSomeAnd, option_map, slice_get, slice_index_or}
use Rattle.std.specs.List.{list_any}
use Rattle.std.proofs.lemmas.List.{get_or-map, length-map}
use Rattle.std.proofs.lemmas.List.Elements.{All-map}
use Rattle.std.proofs.lemmas.Option.{get_or_from_slice_get, slice_get-map, slice_get_within}
use Rattle.vpc_base.proofs.Tests.{list_any-map}
use Rattle.box_survey.proofs.Numbers.{number_below}
use Rattle.box_survey.specs.Survey.{HoldAll, HoldsAt, IsFirstUncovered, IsHeldIn, IsLeastOverlap}
use Rattle.header_boxes.proofs.Held.{valid_if_within}
use Rattle.header_boxes.specs.Boxes.{AreDisjoint, IsValid, IsWithin, holds}
use Rattle.header_boxes.specs.Rows.{AreWhole, IsFirstOutside, is_covered}
use Rattle.report_reader.specs.Reports.{row_limit}
use Rattle.vpc_laws.specs.Types.{Box5, Header, Row, StopText}
use Rattle.report_check.specs.Checked.{IsLeastPair, boxes_of}

module _ {W : Type 0} where
  abbrev part_of : Row W → Box5
  part_of row = row.part

  -- ---- the boxes

  pub valid_parts : (rows : List (Row W)) → All (λ (row : Row W). IsValid row.part) rows → All IsValid (map (λ (row : Row W). row.part) rows)
  valid_parts rows valid = All-map IsValid part_of rows valid

  pub valid_boxes : (whole : Box5) (rows : List (Row W)) → All (λ (row : Row W). IsWithin row.part whole) rows → All IsValid (map (λ (row : Row W). row.part) rows)
  valid_boxes whole rows within = valid_parts rows (λ k x below. valid_if_within (part_of (slice_index_or rows k x)) whole (within k x below))

  pub length-boxes : (rows : List (Row W)) → length (map (λ (row : Row W). row.part) rows) ≡ length rows
  length-boxes rows = length-map rows part_of

  -- ---- rows apart

  pub apart_if_disjoint : (rows : List (Row W)) → AllPairs AreDisjoint (map (λ (row : Row W). row.part) rows) → AllPairs (λ (a b : Row W). AreDisjoint a.part b.part) rows
  apart_if_disjoint rows disjoint i j d before within =
      let first = get_or-map part_of rows i d (part_of d) (omega arith) in
      let second = get_or-map part_of rows j d (part_of d) within in
      subst (λ (b : Box5). AreDisjoint b (part_of (slice_index_or rows j d))) first
      (subst (λ (b : Box5). AreDisjoint (slice_index_or (map part_of rows) i (part_of d)) b) second (disjoint i j (part_of d) before (omega (arith, length-boxes rows))))

  -- ---- what the rows hold

  pub covered : (rows : List (Row W)) (h : Header) → list_any (holds h) (map (λ (row : Row W). row.part) rows) ≡ is_covered rows h
  covered rows h = list_any-map (holds h) part_of rows

  pub whole_if_all : (whole : Box5) (rows : List (Row W)) → HoldAll (IsHeldIn whole) (map (λ (row : Row W). row.part) rows) → AreWhole whole rows
  whole_if_all whole rows all h held = sym (covered rows h) ∙ all h held

  pub outside_if_uncovered : (whole : Box5) (rows : List (Row W)) (h : Header) → IsFirstUncovered (IsHeldIn whole) (map (λ (row : Row W). row.part) rows) h → IsFirstOutside whole rows h
  outside_if_uncovered whole rows h is = record {
    inside = is.matter;
    outside = sym (covered rows h) ∙ is.outside;
    first = λ k held before. sym (covered rows k) ∙ is.first k held before;
  }

  -- ---- rows that share a header

  pub overlap-below : (rows : List (Row W)) (i j : ℕ) → IsLeastOverlap (map (λ (row : Row W). row.part) rows) i j → j < length rows
  overlap-below rows i j is =
      let below : j < length (map part_of rows) = number_below (map part_of rows) j is.share.header is.share.second in
      omega (arith, below, length-boxes rows)

  row-at : (rows : List (Row W)) (i : ℕ) (h : Header) → HoldsAt (map part_of rows) i h → IsSomeAnd (slice_get rows i) (λ (row : Row W). holds h row.part ≡ true)
  row-at rows i h at =
      at-row (slice_get rows i) (subst (λ (o : Option Box5). IsSomeAnd o (λ (b : Box5). holds h b ≡ true)) (slice_get-map part_of rows i) at)
    where
      at-row : (o : Option (Row W)) → IsSomeAnd (option_map part_of o) (λ (b : Box5). holds h b ≡ true) → IsSomeAnd o (λ (row : Row W). holds h row.part ≡ true)
      at-row None at = at
      at-row (Some row) at = at

  shared : (rows : List (Row W)) (i j : ℕ) (h : Header) (a b : Option (Row W)) → AllPairs (λ (a b : Row W). AreDisjoint a.part b.part) rows → i < j
      → slice_get rows i ≡ a → slice_get rows j ≡ b
      → IsSomeAnd a (λ (row : Row W). holds h row.part ≡ true) → IsSomeAnd b (λ (row : Row W). holds h row.part ≡ true) → ⊥
  shared rows i j h None b apart before first second at other = at
  shared rows i j h (Some a) None apart before first second at other = other
  shared rows i j h (Some a) (Some b) apart before first second at other =
      apart i j a before (slice_get_within rows j b second) h
      (subst (λ (row : Row W). holds h row.part ≡ true) (sym (get_or_from_slice_get rows i a a first)) at)
      (subst (λ (row : Row W). holds h row.part ≡ true) (sym (get_or_from_slice_get rows j b a second)) other)

  -- rows apart share none
  pub no_overlap : (rows : List (Row W)) (i j : ℕ) → AllPairs (λ (a b : Row W). AreDisjoint a.part b.part) rows → IsLeastOverlap (map (λ (row : Row W). row.part) rows) i j → ⊥
  no_overlap rows i j apart is =
      shared rows i j is.share.header (slice_get rows i) (slice_get rows j) apart is.below refl refl
      (row-at rows i is.share.header is.share.first) (row-at rows j is.share.header is.share.second)

-- ---- those of a report

pub overlap-few : (rows : List (Row StopText)) (i j : ℕ) → length rows ≤ row_limit → IsLeastOverlap (boxes_of rows) i j → j + 1 ≤ row_limit
overlap-few rows i j few is = let below = overlap-below rows i j is in omega (arith, below)

pub pair_if_overlap : (rows : List (Row StopText)) (i j : ℕ) → IsLeastOverlap (boxes_of rows) i j → IsLeastPair rows (i + 1) (j + 1)
pair_if_overlap rows i j is =
    let first : i ≡ i + 1 - 1 = omega arith in
    let second : j ≡ j + 1 - 1 = omega arith in
    record {
      first = omega arith;
      second = omega arith;
      least = subst (λ (k : ℕ). IsLeastOverlap (boxes_of rows) k (j + 1 - 1)) first (subst (λ (k : ℕ). IsLeastOverlap (boxes_of rows) i k) second is);
    }
