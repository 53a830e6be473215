-- Boxes that slice a cell hold each of its headers, and no two of them hold the same one.
use Rattle.std.proofs.Common.{◌≡◌, ◌≤◌, ◌<◌, ◌+◌, ◌==◌, ◌&&◌, ◌⊎◌, ◌∷◌, ◌∙◌, [], ℕ, Bool, List, None, Option, Some, arith, cond, false, inl, inr, max, nat_le, nat_lt, refl, slice_get, subst, sym, true, ⊎_elim}
use Rattle.std.proofs.lemmas.Bool.{cases_lt}
use Rattle.std.proofs.lemmas.Bool.Decides.{nat_tests}
use Rattle.std.specs.Cmp.{first_so, second_so}
use Rattle.std.specs.List.{Contains}
use Rattle.std.specs.Option.{IsSomeAnd}
use Rattle.vpc_base.proofs.Members.{Contains-cases, Contains-here, Contains-later, Contains-none}
use Rattle.vpc_base.specs.declared.headers.Header.{Header}
use Rattle.header_boxes.proofs.Held.{IsIn, holds_from_in, in_from_holds}
use Rattle.header_boxes.specs.Boxes.{holds}
use Rattle.header_boxes.specs.declared.boxes.Box5.{Box5}
use Rattle.box_survey.proofs.Cut.{Lies, field_on, in_on}
use Rattle.box_survey.proofs.Meeting.{holds-sides}
use Rattle.box_survey.specs.Cells.{holds_sides}
use Rattle.box_survey.specs.Cuts.{range_on, with_range}
use Rattle.box_survey.specs.Slices.{AreSlices, IsHeldAmong, is_slice, is_some_and, next_slice, slice_from}
use Rattle.box_survey.specs.Survey.{HoldsAt}
use Rattle.box_survey.specs.declared.sides.Side.{Side}
use Rattle.box_survey.specs.declared.sides.Side.TheVariants as side

-- a header in a box that was widened lies in the box where its field does
in_back : (s : Side) (h : Header) (b : Box5) (r : ℕ × ℕ) → IsIn h (with_range s b r) → Lies (range_on s b) (field_on s h) → IsIn h b
in_back side.Proto h b r i l = record { proto = l; src = i.src; dst = i.dst; p = i.p; q = i.q }
in_back side.Src h b r i l = record { proto = i.proto; src = l; dst = i.dst; p = i.p; q = i.q }
in_back side.Dst h b r i l = record { proto = i.proto; src = i.src; dst = l; p = i.p; q = i.q }
in_back side.P h b r i l = record { proto = i.proto; src = i.src; dst = i.dst; p = l; q = i.q }
in_back side.Q h b r i l = record { proto = i.proto; src = i.src; dst = i.dst; p = i.p; q = l }

-- ---- one slice

-- what is known of a slice: the headers of the cell that it holds lie from there on and before the next one
record IsSlice (s : Side) (cell : Box5) (from : ℕ) (b : Box5) : Type 0 where
  spans : holds_sides (with_range s b (range_on s cell)) cell ≡ true
  begins : max (range_on s b).0 (range_on s cell).0 ≡ from
  ends : from ≤ (range_on s b).1

greater_is : (a b n : ℕ) → (max a b == n) ≡ true → max a b ≡ n
greater_is a b n t = grind (arith, nat_tests)

not_above : (a b : ℕ) → nat_le a b ≡ true → a ≤ b
not_above a b t = grind (arith, nat_tests)

slice_is : (s : Side) (cell : Box5) (from : ℕ) (b : Box5) → is_slice s cell from b ≡ true → IsSlice s cell from b
slice_is s cell from b t =
    let rest = second_so (holds_sides (with_range s b (range_on s cell)) cell) _ t in
    record {
      spans = first_so (holds_sides (with_range s b (range_on s cell)) cell) _ t;
      begins = greater_is (range_on s b).0 (range_on s cell).0 from (first_so (max (range_on s b).0 (range_on s cell).0 == from) _ rest);
      ends = not_above from (range_on s b).1 (second_so (max (range_on s b).0 (range_on s cell).0 == from) _ rest);
    }

below_max : (a b n x : ℕ) → max a b ≡ n → n ≤ x → a ≤ x
below_max a b n x e le = grind (arith, nat_tests)

above_max : (a b n x : ℕ) → max a b ≡ n → a ≤ x → b ≤ x → n ≤ x
above_max a b n x e l m = grind (arith, nat_tests)

-- it holds the cell's headers up to its end
slice_holds : (s : Side) (cell : Box5) (from : ℕ) (b : Box5) → IsSlice s cell from b → (h : Header) → holds h cell ≡ true → from ≤ field_on s h → field_on s h ≤ (range_on s b).1
    → holds h b ≡ true
slice_holds s cell from b k h inside after before =
    holds_from_in h b (in_back s h b (range_on s cell) (in_from_holds h (with_range s b (range_on s cell)) (holds-sides (with_range s b (range_on s cell)) cell k.spans h inside))
    (below_max (range_on s b).0 (range_on s cell).0 from (field_on s h) k.begins after, before))

-- and none before its begin or past its end
slice_lies : (s : Side) (cell : Box5) (from : ℕ) (b : Box5) → IsSlice s cell from b → (h : Header) → holds h cell ≡ true → holds h b ≡ true → (from ≤ field_on s h) × (field_on s h ≤ (range_on s b).1)
slice_lies s cell from b k h inside held =
    let i = in_on s h b (in_from_holds h b held) in
    let j = in_on s h cell (in_from_holds h cell inside) in
    (above_max (range_on s b).0 (range_on s cell).0 from (field_on s h) k.begins i.0 j.0, i.1)

-- ---- slices one after the other

-- the boxes of these numbers hold the cell's headers from there on, one each
record AreSlicesFrom (boxes : List Box5) (s : Side) (cell : Box5) (from : ℕ) (numbers : List ℕ) : Type 0 where
  held : (h : Header) → holds h cell ≡ true → from ≤ field_on s h → IsHeldAmong boxes numbers h
  later : (h : Header) (i : ℕ) → holds h cell ≡ true → Contains numbers i → HoldsAt boxes i h → from ≤ field_on s h
  apart : (h : Header) (a b : ℕ) → holds h cell ≡ true → Contains numbers a → Contains numbers b → HoldsAt boxes a h → HoldsAt boxes b h → a ≡ b

no_more : (a b : ℕ) → nat_lt a b ≡ true → a < b
no_more a b t = grind (arith, nat_tests)

none_left : (boxes : List Box5) (s : Side) (cell : Box5) (from : ℕ) → nat_lt (range_on s cell).1 from ≡ true → AreSlicesFrom boxes s cell from []
none_left boxes s cell from t = record {
  held = λ h inside after. let i = in_on s h cell (in_from_holds h cell inside) in let less = no_more (range_on s cell).1 from t in absurd (omega (arith, i, less, after));
  later = λ h i inside among held. absurd (Contains-none i among);
  apart = λ h a b inside among others one other. absurd (Contains-none a among);
}

held_by : (boxes : List Box5) (i : ℕ) (b : Box5) (h : Header) → slice_get boxes i ≡ Some b → holds h b ≡ true → HoldsAt boxes i h
held_by boxes i b h is held = subst (λ o. IsSomeAnd o (λ x. holds h x ≡ true)) (sym is) held

by_held : (boxes : List Box5) (i : ℕ) (b : Box5) (h : Header) → slice_get boxes i ≡ Some b → HoldsAt boxes i h → holds h b ≡ true
by_held boxes i b h is held = subst (λ o. IsSomeAnd o (λ x. holds h x ≡ true)) is held

one_more : (boxes : List Box5) (s : Side) (cell : Box5) (from i : ℕ) (b : Box5) (rest : List ℕ) → slice_get boxes i ≡ Some b → IsSlice s cell from b
    → AreSlicesFrom boxes s cell ((range_on s b).1 + 1) rest → AreSlicesFrom boxes s cell from (i ∷ rest)
one_more boxes s cell from i b rest is k more = record {
  held = λ h inside after.
      ⊎_elim
      (λ lt. record { number = i; among = Contains-here i rest; held = held_by boxes i b h is (slice_holds s cell from b k h inside after (omega arith)) })
      (λ ge. let found = more.held h inside ge in record { number = found.number; among = Contains-later i rest found.number found.among; held = found.held })
      (cases_lt (field_on s h) ((range_on s b).1 + 1));
  later = λ h j inside among held. begun h j inside (Contains-cases i j rest among) held;
  apart = λ h a c inside among others one other. apart h a c inside (Contains-cases i a rest among) (Contains-cases i c rest others) one other;
}
  where
    lies : (h : Header) (j : ℕ) → holds h cell ≡ true → i ≡ j → HoldsAt boxes j h → (from ≤ field_on s h) × (field_on s h ≤ (range_on s b).1)
    lies h j inside same held = slice_lies s cell from b k h inside (by_held boxes i b h is (subst (λ n. HoldsAt boxes n h) (sym same) held))

    begun : (h : Header) (j : ℕ) → holds h cell ≡ true → (i ≡ j) ⊎ Contains rest j → HoldsAt boxes j h → from ≤ field_on s h
    begun h j inside (inl same) held = let l = lies h j inside same held in l.0
    begun h j inside (inr among) held = let l = more.later h j inside among held in let e = k.ends in omega (arith, l, e)

    apart : (h : Header) (a c : ℕ) → holds h cell ≡ true → (i ≡ a) ⊎ Contains rest a → (i ≡ c) ⊎ Contains rest c → HoldsAt boxes a h → HoldsAt boxes c h → a ≡ c
    apart h a c inside (inl same) (inl equal) one other = sym same ∙ equal
    apart h a c inside (inl same) (inr among) one other = let l = lies h a inside same one in let m = more.later h c inside among other in absurd (omega (arith, l, m))
    apart h a c inside (inr among) (inl same) one other = let l = lies h c inside same other in let m = more.later h a inside among one in absurd (omega (arith, l, m))
    apart h a c inside (inr among) (inr others) one other = more.apart h a c inside among others one other

next_is : (s : Side) (cell : Box5) (from : ℕ) (b : Box5) (t : Bool) → is_slice s cell from b ≡ t → (f : ℕ → Bool)
    → is_some_and (cond t (Some ((range_on s b).1 + 1)) None) f ≡ true → IsSlice s cell from b × (f ((range_on s b).1 + 1) ≡ true)
next_is s cell from b true is f t = (slice_is s cell from b is, t)
next_is s cell from b false is f t = absurd (cc)

slices_from : (boxes : List Box5) (s : Side) (cell : Box5) (from : ℕ) (numbers : List ℕ) → slice_from boxes s cell from numbers ≡ true → AreSlicesFrom boxes s cell from numbers
slices_from boxes s cell from [] t = none_left boxes s cell from t
slices_from boxes s cell from (i ∷ rest) t = by (slice_get boxes i) refl t (λ next more. slices_from boxes s cell next rest more)
  where
    by : (o : Option Box5) → slice_get boxes i ≡ o → is_some_and (next_slice s cell from o) (λ next. slice_from boxes s cell next rest) ≡ true
        → ((next : ℕ) → slice_from boxes s cell next rest ≡ true → AreSlicesFrom boxes s cell next rest) → AreSlicesFrom boxes s cell from (i ∷ rest)
    by None is t onward = absurd (cc)
    by (Some b) is t onward =
        let k = next_is s cell from b (is_slice s cell from b) refl (λ next. slice_from boxes s cell next rest) t in
        one_more boxes s cell from i b rest is k.0 (onward ((range_on s b).1 + 1) k.1)

pub slices_are : (boxes : List Box5) (s : Side) (cell : Box5) (numbers : List ℕ) → slice_from boxes s cell (range_on s cell).0 numbers ≡ true → AreSlices boxes cell numbers
slices_are boxes s cell numbers t =
    let k = slices_from boxes s cell (range_on s cell).0 numbers t in
    record {
      held = λ h inside. let i = in_on s h cell (in_from_holds h cell inside) in k.held h inside i.0;
      apart = k.apart;
    }
