-- Rows that are joined.
use Rattle.std.proofs.Common.{◌≡◌, ◌≤◌, ◌+◌, ◌&&◌, ◌⊎◌, ℕ, Bool, true, false, List, [], ◌∷◌, ◌++◌, Option, Some, All, inl, inr, refl, ap, sym, ◌∙◌, subst, arith}
use Rattle.vpc_base.proofs.Lemmas.{All-push, all_pairs_push, common_steps, nat_tests, sum_by-append}
use Rattle.vpc_base.specs.Terms.{CutLists, IsBefore}
use Rattle.vpc_base.specs.declared.headers.Header.{Header}
use Rattle.header_boxes.specs.Terms.{AreDisjoint, HasWord, IsAligned, IsRangeWithin, IsValid, IsWithin, holds, in_range, low_of}
use Rattle.header_boxes.specs.declared.boxes.Box5.{Box5}
use Rattle.header_boxes.specs.declared.rows.Row.{Row}
use Rattle.header_boxes.proofs.Held.{valid_if_within}
use Rattle.ordered_cover.specs.Terms.{Along, AreJoined, AreSplit, CanJoin, GoesOn, GoesOnBy, GoesOnInP, IsOneWithLast, KeepsSplit, joined_row, one_if, row_holders, span}
use Rattle.ordered_cover.specs.declared.joining.Along.TheVariants as by_sides
use Rattle.ordered_cover.proofs.Lists.{adjacent_before, adjacent_one, adjacent_push, all_before, of_last, pairs_before, pairs_with_last}

-- ---- two boxes that are one

-- the box holds what the two hold, each header as often as they do, and begins where the first begins
record IsBoth (first other both : Box5) : Type 0 where
  low : low_of both ≡ low_of first
  each : (h : Header) → one_if (holds h both) ≡ one_if (holds h first) + one_if (holds h other)
  within : (sides : Box5) → IsWithin first sides → IsWithin other sides → IsWithin both sides
  aligned : (cuts : CutLists) (sides : Box5) → IsAligned cuts first sides → IsAligned cuts other sides → IsAligned cuts both sides

-- the same side, beside sides that add up
pub one_both : (x x2 y y1 y2 : Bool) → x ≡ x2 → one_if y ≡ one_if y1 + one_if y2 → one_if (x && y) ≡ one_if (x && y1) + one_if (x2 && y2)
one_both x x2 y y1 y2 same e = subst (λ v. one_if (x && y) ≡ one_if (x && y1) + one_if (v && y2)) same (by x)
  where
    by : (b : Bool) → one_if (b && y) ≡ one_if (b && y1) + one_if (b && y2)
    by true = e
    by false = refl

-- sides that add up, beside the same side
pub both_one : (x x1 x2 y y2 : Bool) → one_if x ≡ one_if x1 + one_if x2 → y ≡ y2 → one_if (x && y) ≡ one_if (x1 && y) + one_if (x2 && y2)
both_one x x1 x2 y y2 e same = subst (λ v. one_if (x && y) ≡ one_if (x1 && y) + one_if (x2 && v)) same (by y)
  where
    and_true : (b : Bool) → one_if (b && true) ≡ one_if b
    and_true true = refl
    and_true false = refl

    and_false : (b : Bool) → one_if (b && false) ≡ 0
    and_false true = refl
    and_false false = refl

    by : (b : Bool) → one_if (x && b) ≡ one_if (x1 && b) + one_if (x2 && b)
    by true = let k = and_true x in let l = and_true x1 in let m = and_true x2 in omega (arith, e, k, l, m)
    by false = let k = and_false x in let l = and_false x1 in let m = and_false x2 in omega (arith, k, l, m)

pub one_range : (first other : ℕ × ℕ) (x : ℕ) → first.0 ≤ first.1 → other.0 ≤ other.1 → first.1 + 1 ≡ other.0
    → one_if (in_range (first.0, other.1) x) ≡ one_if (in_range first x) + one_if (in_range other x)
one_range first other x l r n = grind (arith, nat_tests, common_steps)

joined_within : {first other side : ℕ × ℕ} → first.1 + 1 ≡ other.0 → IsRangeWithin first side → IsRangeWithin other side → IsRangeWithin (first.0, other.1) side
joined_within on k l = record { begins = k.begins; valid = let v = k.valid in let w = l.valid in omega (arith, v, w, on); ends = l.ends }

-- along q
both_by_q : (first other : Box5) → GoesOn first other → IsValid first → IsValid other
    → IsBoth first other (record { proto = first.proto; src = first.src; dst = first.dst; p = first.p; q = (first.q.0, other.q.1) })
both_by_q first other on v w = record {
  low = refl;
  each = λ h.
      one_both _ _ _ _ _ (ap (λ r. in_range r h.proto) on.proto)
      (one_both _ _ _ _ _ (ap (λ r. in_range r h.src) on.src)
      (one_both _ _ _ _ _ (ap (λ r. in_range r h.dst) on.dst)
      (one_both _ _ _ _ _ (ap (λ r. in_range r h.p) on.p) (one_range first.q other.q h.q v.q w.q on.q))));
  within = λ sides k l. record { proto = k.proto; src = k.src; dst = k.dst; p = k.p; q = joined_within on.q k.q l.q };
  aligned = λ cuts sides k l. record { proto = k.proto; src = k.src; dst = k.dst; p = k.p; q = record { begins = k.q.begins; ends = l.q.ends } };
}

-- along p
both_by_p : (first other : Box5) → GoesOnInP first other → IsValid first → IsValid other
    → IsBoth first other (record { proto = first.proto; src = first.src; dst = first.dst; p = (first.p.0, other.p.1); q = first.q })
both_by_p first other on v w = record {
  low = refl;
  each = λ h.
      one_both _ _ _ _ _ (ap (λ r. in_range r h.proto) on.proto)
      (one_both _ _ _ _ _ (ap (λ r. in_range r h.src) on.src)
      (one_both _ _ _ _ _ (ap (λ r. in_range r h.dst) on.dst)
      (both_one _ _ _ _ _ (one_range first.p other.p h.p v.p w.p on.p) (ap (λ r. in_range r h.q) on.q))));
  within = λ sides k l. record { proto = k.proto; src = k.src; dst = k.dst; p = joined_within on.p k.p l.p; q = k.q };
  aligned = λ cuts sides k l. record { proto = k.proto; src = k.src; dst = k.dst; p = record { begins = k.p.begins; ends = l.p.ends }; q = k.q };
}

span_by_q : (first other : Box5) → GoesOn first other → IsValid first → IsValid other → IsBoth first other (span first other)
span_by_q first other on v w =
    subst (λ (r : ℕ × ℕ). IsBoth first other (record { proto = first.proto; src = first.src; dst = first.dst; p = r; q = (first.q.0, other.q.1) }))
    (ap (λ (r : ℕ × ℕ). (first.p.0, r.1)) on.p) (both_by_q first other on v w)

span_by_p : (first other : Box5) → GoesOnInP first other → IsValid first → IsValid other → IsBoth first other (span first other)
span_by_p first other on v w =
    subst (λ (r : ℕ × ℕ). IsBoth first other (record { proto = first.proto; src = first.src; dst = first.dst; p = (first.p.0, other.p.1); q = r }))
    (ap (λ (r : ℕ × ℕ). (first.q.0, r.1)) on.q) (both_by_p first other on v w)

is_span : (along : Along) (first other : Box5) → GoesOnBy along first other → IsValid first → IsValid other → IsBoth first other (span first other)
is_span by_sides.Q first other on v w = span_by_q first other on v w
is_span by_sides.PAndQ first other (inl on) v w = span_by_q first other on v w
is_span by_sides.PAndQ first other (inr on) v w = span_by_p first other on v w

either : (b c d : Bool) → b ≡ true → one_if b ≡ one_if c + one_if d → (c ≡ true) ⊎ (d ≡ true)
either b true d t e = inl refl
either b false true t e = inr refl
either b false false t e = let o = ap one_if t in absurd (omega (arith, o, e))

-- ---- rows
module _ {W : Type 0} {meaning : Header → Option W} {cuts : CutLists} {sought : Header → Bool} {sides : Box5} {open_boxes : List Box5} where
  -- rows of which the last goes on from the one before it
  split_joined : (along : Along) (before : List (Row W)) (last row : Row W) → CanJoin (GoesOnBy along) last row
      → AreSplit meaning cuts sought sides open_boxes ((before ++ last ∷ []) ++ row ∷ [])
      → AreSplit meaning cuts sought sides open_boxes (before ++ joined_row last row ∷ [])
  split_joined along before last row can s =
      let joined : Row W = joined_row last row in
      let old : List (Row W) = before ++ last ∷ [] in
      let Apart : Row W → Row W → Type 0 = (λ x y. AreDisjoint x.part y.part) in
      let Ascend : Row W → Row W → Type 0 = (λ x y. IsBefore (low_of x.part) (low_of y.part)) in
      let Within : Row W → Type 0 = (λ r. IsWithin r.part sides) in
      let Aligned : Row W → Type 0 = (λ r. IsAligned cuts r.part sides) in
      let Begun : Row W → Type 0 = (λ r. All (λ b. IsBefore (low_of r.part) (low_of b)) open_boxes) in
      let within_last : IsWithin last.part sides = of_last Within before last (all_before Within old row s.are_true.within) in
      let within_row : IsWithin row.part sides = of_last Within old row s.are_true.within in
      let both = is_span along last.part row.part can.0 (valid_if_within last.part sides within_last) (valid_if_within row.part sides within_row) in
      let apart_last : All (λ x. Apart x last) before = pairs_with_last Apart before last (pairs_before Apart old row s.are_true.disjoint) in
      let apart_row : All (λ x. Apart x row) before = all_before (λ x. Apart x row) before last (pairs_with_last Apart old row s.are_true.disjoint) in
      let word_last : HasWord meaning last = of_last (HasWord meaning) before last (all_before (HasWord meaning) old row s.are_true.word) in
      let word_row : HasWord meaning row = of_last (HasWord meaning) old row s.are_true.word in
      let count : (h : Header) → row_holders (before ++ joined ∷ []) h ≡ row_holders (old ++ row ∷ []) h = (λ h.
      let one : Row W → ℕ = (λ r. one_if (holds h r.part)) in
      let o = sum_by-append one old (row ∷ []) in
      let l = sum_by-append one before (last ∷ []) in
      let j = sum_by-append one before (joined ∷ []) in
      let b = both.each h in
      omega (arith, o, l, j, b)) in
      record {
        are_true = record {
          within = All-push Within before joined (all_before Within before last (all_before Within old row s.are_true.within)) (both.within sides within_last within_row);
          disjoint = all_pairs_push Apart before joined (pairs_before Apart before last (pairs_before Apart old row s.are_true.disjoint))
              (λ k d lt h in_first in_joined.
              elim (either _ _ _ in_joined (both.each h)) as (λ _. ⊥) [ inl t ↦ apart_last k d lt h in_first t | inr t ↦ apart_row k d lt h in_first t ]);
          word = All-push (HasWord meaning) before joined (all_before (HasWord meaning) before last (all_before (HasWord meaning) old row s.are_true.word))
              (λ h inside.
              elim (either _ _ _ inside (both.each h)) as (λ _. meaning h ≡ Some last.word) [ inl t ↦ word_last h t | inr t ↦ word_row h t ∙ ap Some (sym can.1) ]);
        };
        ordered = record {
          ascending = all_pairs_push Ascend before joined (pairs_before Ascend before last (pairs_before Ascend old row s.ordered.ascending))
              (pairs_with_last Ascend before last (pairs_before Ascend old row s.ordered.ascending));
          aligned = All-push Aligned before joined (all_before Aligned before last (all_before Aligned old row s.ordered.aligned))
              (both.aligned cuts sides (of_last Aligned before last (all_before Aligned old row s.ordered.aligned)) (of_last Aligned old row s.ordered.aligned));
        };
        once = λ h. let c = count h in let e = s.once h in omega (arith, c, e);
        all = λ h inside wanted. let c = count h in let e = s.all h inside wanted in omega (arith, c, e);
        within = s.within;
        aligned = s.aligned;
        begun = All-push Begun before joined (all_before Begun before last (all_before Begun old row s.begun)) (of_last Begun before last (all_before Begun old row s.begun));
      }

-- rows that keep a split, of which the last goes on from the one before it
pub keeps_more : {W : Type 0} (along : Along) (first rows before : List (Row W)) (row new : Row W) (one : IsOneWithLast (GoesOnBy along) rows row new) → before ≡ one.before
    → KeepsSplit first (rows ++ row ∷ []) → KeepsSplit first (before ++ new ∷ [])
keeps_more along first rows before row new one same keeps meaning cuts sought sides open_boxes s =
    let Split = AreSplit meaning cuts sought sides open_boxes in
    subst (λ v. Split (v ++ new ∷ [])) (sym same)
    (subst (λ v. Split (one.before ++ v ∷ [])) (sym one.new_is)
    (split_joined along one.before one.last row one.can (subst (λ v. Split (v ++ row ∷ [])) one.ended (keeps meaning cuts sought sides open_boxes s))))

-- ---- no row could be one with the next

module _ {W : Type 0} (On : Box5 → Box5 → Type 0) where
  -- the first one
  pub joined_first : (rows : List (Row W)) (row : Row W) → rows ≡ [] → AreJoined On (rows ++ row ∷ [])
  joined_first rows row none = adjacent_one (λ a b. ¬ (CanJoin On a b)) rows row none

  -- one more, which can't be one with the last one
  pub joined_more : (rows before : List (Row W)) (last row : Row W) → rows ≡ before ++ last ∷ [] → ¬ (CanJoin On last row) → AreJoined On rows → AreJoined On (rows ++ row ∷ [])
  joined_more rows before last row ended apart joined =
      subst (λ v. AreJoined On (v ++ row ∷ [])) (sym ended)
      (adjacent_push (λ a b. ¬ (CanJoin On a b)) before last row (subst (AreJoined On) ended joined) apart)

  -- without the last one
  pub joined_before : (rows before : List (Row W)) (last : Row W) → rows ≡ before ++ last ∷ [] → AreJoined On rows → AreJoined On before
  joined_before rows before last ended joined = adjacent_before (λ a b. ¬ (CanJoin On a b)) before last (subst (AreJoined On) ended joined)
