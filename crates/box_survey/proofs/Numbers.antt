-- The numbers of the boxes that share a header with a cell.
use Rattle.std.proofs.Common.{◌≡◌, ℕ, ◌≤◌, ◌<◌, ◌+◌, true, zero-add, List, refl, arith, subst, ◌∙◌, length, slice_get, get_or, Some, ⊎_elim}
use Rattle.std.proofs.lemmas.Bool.{cases_lt}
use Rattle.std.proofs.lemmas.List.Elements.{filter_passes}
use Rattle.std.proofs.lemmas.List.FromFn.{get_or-range_with_len, length-range_with_len}
use Rattle.std.proofs.lemmas.List.Kept.{AllPairs-from_increasing, IsStrictlyIncreasing-filter}
use Rattle.std.proofs.lemmas.Option.{get_or_from_slice_get, slice_get_within}
use Rattle.std.specs.List.{Contains, filter, range_with_len}
use Rattle.std.specs.Option.{IsSomeAnd}
use Rattle.std.specs.List.Sorted.{IsStrictlyIncreasing}
use Rattle.vpc_base.specs.declared.headers.Header.{Header}
use Rattle.vpc_base.proofs.Members.{Contains-filter}
use Rattle.header_boxes.specs.declared.boxes.Box5.{Box5}
use Rattle.header_boxes.specs.Boxes.{holds}
use Rattle.box_survey.specs.Survey.{HoldsAt}
use Rattle.box_survey.specs.Cells.{AreCandidates, AreMeeting, meets_at}
use Rattle.box_survey.proofs.Meeting.{held_if_meets, meets_if_held}

-- the candidates that share a header with the cell are all that do
pub meeting_of : (boxes : List Box5) (cell : Box5) (xs : List ℕ) → AreCandidates boxes cell xs → AreMeeting boxes cell (filter (meets_at boxes cell) xs)
meeting_of boxes cell xs c = record {
  candidates = record {
    ascending = IsStrictlyIncreasing-filter (meets_at boxes cell) xs c.ascending;
    all = λ i t. Contains-filter (meets_at boxes cell) xs i (c.all i t) t;
  };
  each = filter_passes (meets_at boxes cell) xs;
}

-- and candidates for each part of it
pub candidates_of_part : (boxes : List Box5) (cell part : Box5) (xs : List ℕ) → ((h : Header) → holds h part ≡ true → holds h cell ≡ true)
    → AreCandidates boxes cell xs → AreCandidates boxes part xs
candidates_of_part boxes cell part xs within c = record {
  ascending = c.ascending;
  all = λ i t. let s = held_if_meets boxes part i t in c.all i (meets_if_held boxes cell i s.header (within s.header s.inside) s.held);
}

-- a box that holds a header is one of the list
pub number_below : (boxes : List Box5) (i : ℕ) (h : Header) → HoldsAt boxes i h → i < length boxes
number_below boxes i h held = by (slice_get boxes i) refl held
  where
    by : (o : _) → slice_get boxes i ≡ o → IsSomeAnd o (λ b. holds h b ≡ true) → i < length boxes
    by (Some b) e s = slice_get_within boxes i b e
    by _ e s = absurd (s)

-- all numbers
pub candidates_all : (boxes : List Box5) (cell : Box5) → AreCandidates boxes cell (range_with_len 0 (length boxes))
candidates_all boxes cell = record {
  ascending = λ k lt.
      let l = length-range_with_len 0 (length boxes) in
      let a = get_or-range_with_len 0 (length boxes) k 0 (omega (arith, l, lt)) in
      let b = get_or-range_with_len 0 (length boxes) (k + 1) 0 (omega (arith, l, lt)) in
      omega (arith, a, b);
  all = λ i t.
      let s = held_if_meets boxes cell i t in
      let lt = number_below boxes i s.header s.held in
      (i, omega (arith, lt, length-range_with_len 0 (length boxes)), get_or-range_with_len 0 (length boxes) i i lt ∙ zero-add i);
}

-- the first of ascending numbers is the least
pub first-least : (xs : List ℕ) (first x : ℕ) → IsStrictlyIncreasing xs → slice_get xs 0 ≡ Some first → Contains xs x → first ≤ x
first-least xs first x up head (k, lt, e) =
    let f : get_or xs 0 x ≡ first = get_or_from_slice_get xs 0 first x head in
    ⊎_elim (λ some. let less = AllPairs-from_increasing xs up 0 k x some lt in omega (arith, f, e, less)) (λ none. let z : k ≡ 0 = omega arith in let g : get_or xs 0 x ≡ x = subst (λ j. get_or xs j x ≡ x) z e in omega (arith, f, g)) (cases_lt 0 k)

-- a header of the cell in a box: its number is at least the first
pub first-held : (boxes : List Box5) (cell : Box5) (xs : List ℕ) (first i : ℕ) (h : Header) → AreMeeting boxes cell xs → slice_get xs 0 ≡ Some first → holds h cell ≡ true → HoldsAt boxes i h → first ≤ i
first-held boxes cell xs first i h m head inside held =
    first-least xs first i m.candidates.ascending head (m.candidates.all i (meets_if_held boxes cell i h inside held))
