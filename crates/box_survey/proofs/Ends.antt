-- The ends of boxes inside a cell.
use Rattle.std.proofs.Common.{◌≡◌, ℕ, ◌≤◌, ◌<◌, ◌+◌, ◌&&◌, ◌++◌, nat_le, nat_lt, Bool, true, false, cond, None, Some, List, [], ◌∷◌, refl, arith, sym, subst, ◌∙◌, length, slice_get, get_or, take}
use Rattle.std.proofs.lemmas.Bool.Decides.{nat_tests}
use Rattle.std.proofs.lemmas.List.Elements.{All-append, All-cons, All-nil, All-more}
use Rattle.std.specs.Cmp.{first_so, second_so}
use Rattle.std.specs.List.{All}
use Rattle.std.specs.Option.{IsSomeAnd}
use Rattle.header_boxes.specs.declared.boxes.Box5.{Box5}
use Rattle.box_survey.specs.Cells.{do_ranges_meet, do_meet, does_some_meet, meets_at}
use Rattle.box_survey.specs.Cuts.{AreEnds, Divides, HoldsRange, ends_inside, range_on}
use Rattle.box_survey.specs.declared.sides.Side.{Side}
use Rattle.box_survey.specs.declared.sides.Side.TheVariants as side

one_divides : (r : ℕ × ℕ) (b : Bool) (x : ℕ) → (b ≡ true → Divides r x) → All (Divides r) (cond b (x ∷ []) [])
one_divides r true x h = All-cons (Divides r) x [] (h refl) (All-nil (Divides r))
one_divides r false x h = All-nil (Divides r)

begins : (r : ℕ × ℕ) (x : ℕ) → (nat_lt r.0 x && nat_le x r.1) ≡ true → Divides r x
begins r x t = let a = first_so (nat_lt r.0 x) (nat_le x r.1) t in let b = second_so (nat_lt r.0 x) (nat_le x r.1) t in (grind (arith, nat_tests), grind (arith, nat_tests))

ended : (r : ℕ × ℕ) (x : ℕ) → (nat_le r.0 x && nat_lt x r.1) ≡ true → Divides r (x + 1)
ended r x t = let a = first_so (nat_le r.0 x) (nat_lt x r.1) t in let b = second_so (nat_le r.0 x) (nat_lt x r.1) t in (grind (arith, nat_tests), grind (arith, nat_tests))

all_divide : (r other : ℕ × ℕ) → All (Divides r) (ends_inside r other)
all_divide r other =
    All-append (Divides r) _ _ (one_divides r (nat_lt r.0 other.0 && nat_le other.0 r.1) other.0 (begins r other.0)) (one_divides r (nat_le r.0 other.1 && nat_lt other.1 r.1) (other.1 + 1) (ended r other.1))

none_first : (xs ys : List ℕ) → xs ++ ys ≡ [] → xs ≡ []
none_first [] ys e = refl
none_first (x ∷ xs) ys e = absurd (cc)

none_second : (xs ys : List ℕ) → xs ++ ys ≡ [] → ys ≡ []
none_second [] ys e = e
none_second (x ∷ xs) ys e = absurd (cc)

no_test : (b : Bool) (x : ℕ) → cond b (x ∷ []) [] ≡ [] → b ≡ false
no_test true x e = absurd (cc)
no_test false x e = refl

-- of two ranges that share a number the second holds the first where it has no end inside
holds_if_none : (r other : ℕ × ℕ) → do_ranges_meet other r ≡ true → ends_inside r other ≡ [] → (other.0 ≤ r.0) × (r.1 ≤ other.1)
holds_if_none r other meet none =
    let a = no_test (nat_lt r.0 other.0 && nat_le other.0 r.1) other.0 (none_first _ _ none) in
    let b = no_test (nat_le r.0 other.1 && nat_lt other.1 r.1) (other.1 + 1) (none_second (cond (nat_lt r.0 other.0 && nat_le other.0 r.1) (other.0 ∷ []) []) _ none) in
    (begin r.0 r.1 other.0 other.1 meet a, end r.0 r.1 other.0 other.1 meet b)
  where
    begin : (a b x y : ℕ) → do_ranges_meet (x, y) (a, b) ≡ true → (nat_lt a x && nat_le x b) ≡ false → x ≤ a
    begin a b x y meet e = grind (arith, nat_tests)

    end : (a b x y : ℕ) → do_ranges_meet (x, y) (a, b) ≡ true → (nat_le a y && nat_lt y b) ≡ false → b ≤ y
    end a b x y meet e = grind (arith, nat_tests)

side_meets : (s : Side) (b cell : Box5) → do_meet b cell ≡ true → do_ranges_meet (range_on s b) (range_on s cell) ≡ true
side_meets s b cell t = by s
  where
    r0 : (do_ranges_meet b.src cell.src && (do_ranges_meet b.dst cell.dst && (do_ranges_meet b.p cell.p && do_ranges_meet b.q cell.q))) ≡ true
    r0 = second_so (do_ranges_meet b.proto cell.proto) _ t

    r1 : (do_ranges_meet b.dst cell.dst && (do_ranges_meet b.p cell.p && do_ranges_meet b.q cell.q)) ≡ true
    r1 = second_so (do_ranges_meet b.src cell.src) _ r0

    r2 : (do_ranges_meet b.p cell.p && do_ranges_meet b.q cell.q) ≡ true
    r2 = second_so (do_ranges_meet b.dst cell.dst) _ r1

    by : (s : Side) → do_ranges_meet (range_on s b) (range_on s cell) ≡ true
    by side.Proto = first_so (do_ranges_meet b.proto cell.proto) _ t
    by side.Src = first_so (do_ranges_meet b.src cell.src) _ r0
    by side.Dst = first_so (do_ranges_meet b.dst cell.dst) _ r1
    by side.P = first_so (do_ranges_meet b.p cell.p) _ r2
    by side.Q = second_so (do_ranges_meet b.p cell.p) _ r2

-- no box was looked at
pub ends_at_start : (boxes : List Box5) (cell : Box5) (s : Side) → AreEnds boxes cell s [] []
ends_at_start boxes cell s = record { cuts = All-nil _; none = λ e. All-nil _ }

-- the box of one more number
pub ends_more : (boxes : List Box5) (cell : Box5) (s : Side) (numbers ends more : List ℕ) (k i : ℕ) (b : Box5) → k < length numbers → i ≡ get_or numbers k i
    → meets_at boxes cell i ≡ true → slice_get boxes i ≡ Some b → more ≡ ends ++ ends_inside (range_on s cell) (range_on s b)
    → AreEnds boxes cell s (take k numbers) ends → AreEnds boxes cell s (take (k + 1) numbers) more
ends_more boxes cell s numbers ends more k i b lt at meets is grown were = record {
  cuts = subst (All (Divides (range_on s cell))) (sym grown) (All-append (Divides (range_on s cell)) ends _ were.cuts (all_divide (range_on s cell) (range_on s b)));
  none = λ e.
      let none : ends ++ ends_inside (range_on s cell) (range_on s b) ≡ [] = sym grown ∙ e in
      All-more (HoldsRange boxes s (range_on s cell)) numbers k i lt (were.none (none_first ends _ none))
      (subst (HoldsRange boxes s (range_on s cell)) at (here (none_second ends _ none)));
}
  where
    met : do_meet b cell ≡ true
    met = subst (λ o. does_some_meet cell o ≡ true) is meets

    here : ends_inside (range_on s cell) (range_on s b) ≡ [] → HoldsRange boxes s (range_on s cell) i
    here none = subst (λ o. IsSomeAnd o (λ x. ((range_on s x).0 ≤ (range_on s cell).0) × ((range_on s cell).1 ≤ (range_on s x).1))) (sym is)
        (holds_if_none (range_on s cell) (range_on s b) (side_meets s b cell met) none)

-- a box that shares a header with the cell is there
pub ends_none : (boxes : List Box5) (cell : Box5) (i : ℕ) → slice_get boxes i ≡ None → meets_at boxes cell i ≡ true → ⊥
ends_none boxes cell i e t = let f : does_some_meet cell None ≡ true = subst (λ o. does_some_meet cell o ≡ true) e t in cc
