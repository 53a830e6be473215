-- The nodes that cut a box down to a part, and what they leave to be stood for.
use Rattle.std.proofs.Common.{◌≡◌, ℕ, ◌≤◌, ◌<◌, ◌+◌, ◌-◌, ◌&&◌, ◌++◌, ◌⊎◌, Bool, true, false, nat_lt, if◌then◌else◌, List, [], ◌∷◌, append_assoc, inl, inr, refl, ap, sym, ◌∙◌, arith}
use Rattle.vpc_base.proofs.Lemmas.{nat_tests}
use Rattle.std.proofs.lemmas.List.{reverse-append}
use Rattle.std.specs.Prelude.{reverse}
use Rattle.header_boxes.specs.Boxes.{IsWithin, low_of}
use Rattle.header_boxes.specs.declared.boxes.Box5.{Box5}
use Rattle.header_boxes.specs.declared.rows.Row.{Row}
use Rattle.box_images.specs.Fields.{side_of}
use Rattle.box_images.specs.declared.fields.Side.{Side}
use Rattle.box_images.specs.declared.fields.Side.TheVariants.{Proto, Src, Dst, P, Q}
use Rattle.box_images.proofs.SideLemmas.{side_begins, side_within}
use Rattle.ordered_cover.specs.Beside.{all_sides, beside, beside_by, cut_down, cuts_beside, cuts_by}
use Rattle.ordered_cover.specs.Trees.{divides, leaves_over, part_below, stand_for, with_side}
use Rattle.ordered_cover.specs.declared.trees.Node.{Node}
use Rattle.ordered_cover.specs.declared.trees.Node.TheVariants.{Cut, Leaf}

-- ---- one side of a box

pub with_side-own : (w : Box5) (s : Side) → with_side w s (side_of w s) ≡ w
with_side-own w Proto = refl
with_side-own w Src = refl
with_side-own w Dst = refl
with_side-own w P = refl
with_side-own w Q = refl

side_of-with_side : (w : Box5) (s t : Side) (r : ℕ × ℕ) → ((t ≡ s) × (side_of (with_side w s r) t ≡ r)) ⊎ (side_of (with_side w s r) t ≡ side_of w t)
side_of-with_side w Proto Proto r = inl (refl, refl)
side_of-with_side w Src Src r = inl (refl, refl)
side_of-with_side w Dst Dst r = inl (refl, refl)
side_of-with_side w P P r = inl (refl, refl)
side_of-with_side w Q Q r = inl (refl, refl)
side_of-with_side w _ _ r = inr refl

-- a part begins where the whole begins, and ends no later
record BeginsIn (c w : Box5) : Type 0 where
  begins : (s : Side) → (side_of c s).0 ≡ (side_of w s).0
  some : (s : Side) → (side_of c s).0 ≤ (side_of c s).1
  ends : (s : Side) → (side_of c s).1 ≤ (side_of w s).1

-- it does so where a side is cut down to its own
begins_still : (c w : Box5) (s : Side) → BeginsIn c w → BeginsIn c (with_side w s (side_of c s))
begins_still c w s b = record {
  begins = λ t. elim (side_of-with_side w s t (side_of c s)) as (λ _. (side_of c t).0 ≡ (side_of (with_side w s (side_of c s)) t).0) [
    | inl own ↦ ap (λ v. (side_of c v).0) own.0 ∙ sym (ap (λ (r : ℕ × ℕ). r.0) own.1)
    | inr same ↦ b.begins t ∙ sym (ap (λ (r : ℕ × ℕ). r.0) same)
  ];
  some = b.some;
  ends = λ t. elim (side_of-with_side w s t (side_of c s)) as (λ _. (side_of c t).1 ≤ (side_of (with_side w s (side_of c s)) t).1) [
    | inl own ↦ let e = ap (λ v. (side_of c v).1) own.0 in let f = ap (λ (r : ℕ × ℕ). r.1) own.1 in omega (arith, e, f)
    | inr same ↦ let e = b.ends t in let f = ap (λ (r : ℕ × ℕ). r.1) same in omega (arith, e, f)
  ];
}

begins_within : (c w : Box5) → IsWithin c w → low_of c ≡ low_of w → BeginsIn c w
begins_within c w k low = record {
  begins = side_begins c w low;
  some = λ s. (side_within c w k s).valid;
  ends = λ s. (side_within c w k s).ends;
}

-- ---- the cuts

-- nodes stand for boxes where others stand for other boxes, and they have the same leaves
record GoOn {W : Type 0} (nodes : List (Node W)) (boxes : List Box5) (later : List (Node W)) (others : List Box5) : Type 0 where
  pub stands : stand_for nodes boxes ≡ stand_for later others
  pub gives : leaves_over nodes boxes ≡ leaves_over later others

divides_after : (e : ℕ) (r : ℕ × ℕ) → r.0 ≤ e → e < r.1 → divides (e + 1) r ≡ true
divides_after e r k l = grind (arith, nat_tests)

is_less : (m n : ℕ) → nat_lt m n ≡ true → m < n
is_less m n e = grind (arith, nat_tests)

is_least : (m n : ℕ) → nat_lt m n ≡ false → m ≤ n → m ≡ n
is_least m n e le = grind (arith, nat_tests)

goes_on : {W : Type 0} (sides : List Side) (w c : Box5) (boxes : List Box5) (later : List (Node W)) → BeginsIn c w
    → GoOn (cuts_by sides w c ++ later) (w ∷ boxes) later (cut_down sides w c ∷ (reverse (beside_by sides w c) ++ boxes))
goes_on [] w c boxes later b = record { stands = refl; gives = refl }
goes_on {W} (s ∷ sides) w c boxes later b = by (nat_lt e f) refl (λ others. goes_on sides next c others later (begins_still c w s b))
  where
    e : ℕ
    e = (side_of c s).1

    f : ℕ
    f = (side_of w s).1

    next : Box5
    next = with_side w s (side_of c s)

    after : Box5
    after = with_side w s (e + 1, f)

    cuts : List (Node W)
    cuts = cuts_by sides next c

    left : List Box5
    left = beside_by sides next c

    by : (t : Bool) → nat_lt e f ≡ t → ((others : List Box5) → GoOn (cuts ++ later) (next ∷ others) later (cut_down sides next c ∷ (reverse left ++ others)))
        → GoOn (((if t then Cut s (e + 1) ∷ [] else []) ++ cuts) ++ later) (w ∷ boxes) later (cut_down sides next c ∷ (reverse ((if t then after ∷ [] else []) ++ left) ++ boxes))
    by true less rest =
        let lt = is_less e f less in
        let low = b.begins s in
        let some = b.some s in
        let inside : divides (e + 1) (side_of w s) ≡ true = divides_after e (side_of w s) (omega (arith, low, some)) lt in
        let ended : e + 1 - 1 ≡ e = omega arith in
        let below : part_below w s (e + 1) ≡ next =
        ap (with_side w s) (ap (λ (x : ℕ). (x, e + 1 - 1)) (sym low) ∙ ap (λ (x : ℕ). ((side_of c s).0, x)) ended) in
        let turned : reverse left ++ (after ∷ boxes) ≡ reverse (after ∷ left) ++ boxes =
        sym (ap (λ v. v ++ boxes) (reverse-append (after ∷ []) left) ∙ append_assoc (reverse left) (after ∷ []) boxes) in
        let more = rest (after ∷ boxes) in
        record {
          stands =
              ap (λ v. v && stand_for (cuts ++ later) (part_below w s (e + 1) ∷ (after ∷ boxes))) inside
              ∙ (ap (λ v. stand_for (cuts ++ later) (v ∷ (after ∷ boxes))) below
              ∙ (more.stands ∙ ap (λ v. stand_for later (cut_down sides next c ∷ v)) turned));
          gives =
              ap (λ v. leaves_over (cuts ++ later) (v ∷ (after ∷ boxes))) below
              ∙ (more.gives ∙ ap (λ v. leaves_over later (cut_down sides next c ∷ v)) turned);
        }
    by false least rest =
        let same = is_least e f least (b.ends s) in
        let low = b.begins s in
        let whole : side_of w s ≡ side_of c s = ap (λ (x : ℕ). (x, f)) (sym low) ∙ ap (λ (x : ℕ). ((side_of c s).0, x)) (sym same) in
        let kept : w ≡ next = sym (with_side-own w s) ∙ ap (with_side w s) whole in
        let more = rest boxes in
        record {
          stands = ap (λ v. stand_for (cuts ++ later) (v ∷ boxes)) kept ∙ more.stands;
          gives = ap (λ v. leaves_over (cuts ++ later) (v ∷ boxes)) kept ∙ more.gives;
        }

-- ---- a row of a box

module _ {W : Type 0} (row : Row W) (w : Box5) (boxes : List Box5) (within : IsWithin row.part w) (low : low_of row.part ≡ low_of w) (later : List (Node W)) where
  row_goes_on : GoOn (cuts_beside w row.part ++ (Leaf row.word ∷ later)) (w ∷ boxes) (Leaf row.word ∷ later) (row.part ∷ (reverse (beside w row.part) ++ boxes))
  row_goes_on = goes_on all_sides w row.part boxes (Leaf row.word ∷ later) (begins_within row.part w within low)

  -- its cuts and its leaf stand for the box, once what is left beside it is stood for
  pub stand_for-row : stand_for (cuts_beside w row.part ++ (Leaf row.word ∷ later)) (w ∷ boxes) ≡ stand_for later (reverse (beside w row.part) ++ boxes)
  stand_for-row = row_goes_on.stands

  pub leaves_over-row : leaves_over (cuts_beside w row.part ++ (Leaf row.word ∷ later)) (w ∷ boxes) ≡ row ∷ leaves_over later (reverse (beside w row.part) ++ boxes)
  leaves_over-row = row_goes_on.gives
