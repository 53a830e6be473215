-- What a look at a cell adds to what was found.
use Rattle.std.proofs.Common.{Any, Contains, IfSome, IsSome, IsSomeAnd, List, MatchOption, None, Option, Some, [], arith, false, get_or, inl, inr, is_some, length, refl, slice_get, subst, sym, true, ℕ, ⊎_elim, ◌&&◌, ◌<◌, ◌∙◌, ◌≡◌, ◌≤◌, ◌⊎◌}
use Rattle.vpc_base.proofs.Lemmas.{AllPairs-from_increasing, both_ways, cases_lt, get_or_default, get_or_from_slice_get}
use Rattle.std.specs.List.{list_any}
use Rattle.vpc_base.specs.Header.{IsBefore}
use Rattle.vpc_base.specs.declared.headers.Header.{Header}
use Rattle.header_boxes.specs.declared.boxes.Box5.{Box5}
use Rattle.header_boxes.specs.Boxes.{holds}
use Rattle.box_survey.specs.Terms.{AreHalves, AreMeeting, AreSlices, AreThere, Cut, Findings, HoldsAt, HoldsCell, IsFirstIn, IsSurveyed, IsUncovered, OverlapsLater, meets_at}
use Rattle.box_survey.proofs.Meeting.{held_if_meets, meets_if_held}
use Rattle.box_survey.proofs.Numbers.{first-held, first-least}
use Rattle.box_survey.proofs.Order.{not_before_trans}
use Rattle.box_survey.proofs.Listed.{any_holds, none_holds}
use Rattle.box_survey.proofs.Kept.{least_at, least_itself, least_some, no_greater_itself, no_greater_through, outside_at, outside_itself}

-- ---- a cell in two halves

pub surveyed_halves : (matters : Header → Type 0) (boxes : List Box5) (cell low high : Box5) (old now new : Findings) → AreHalves cell low high
    → IsSurveyed matters boxes low old now → IsSurveyed matters boxes high now new → IsSurveyed matters boxes cell old new
surveyed_halves matters boxes cell low high old now new halves f g = record {
  there = g.there;
  kept = no_greater_through old now new f.kept g.kept;
  least = record {
    overlaps = λ h a b inside lt first second.
        ⊎_elim
        (λ t. least_at now.least new.least a (f.least.overlaps h a b t lt first second) g.kept.least)
        (λ t. g.least.overlaps h a b t lt first second)
        (halves.both h inside);
    uncovered = λ h inside out.
        ⊎_elim
        (λ t. ⊎_elim (λ s. inl (least_some now.least new.least s g.kept.least)) (λ s. inr (outside_at now.outside new.outside h s g.kept.outside)) (f.least.uncovered h t out))
        (λ t. g.least.uncovered h t out)
        (halves.both h inside);
  };
}

-- ---- a cell in no box

none_held : (boxes : List Box5) (cell : Box5) (i : ℕ) (h : Header) → AreMeeting boxes cell [] → holds h cell ≡ true → HoldsAt boxes i h → ⊥
none_held boxes cell i h m inside held = let there = m.candidates.all i (meets_if_held boxes cell i h inside held) in omega (arith, there.1)

-- none of the cell's headers matters and comes before the one that is found
pub surveyed_settled : (matters : Header → Type 0) (boxes : List Box5) (cell : Box5) (found : Findings) → AreMeeting boxes cell [] → AreThere matters boxes found
    → ((h : Header) → holds h cell ≡ true → matters h → IsSomeAnd found.outside (λ k. ¬ IsBefore h k)) → IsSurveyed matters boxes cell found found
surveyed_settled matters boxes cell found m there none = record {
  there = there;
  kept = no_greater_itself found;
  least = record {
    overlaps = λ h a b inside lt first second. absurd (none_held boxes cell a h m inside first);
    uncovered = λ h inside out. inr (none h inside out.matter);
  };
}

outside_there : (matters : Header → Type 0) (boxes : List Box5) (h : Header) (o n : Option Header) → IfSome o (IsUncovered matters boxes) → IsUncovered matters boxes h
    → IsSomeAnd n (λ k. (¬ IsBefore h k) × ((k ≡ h) ⊎ (o ≡ Some k))) → IfSome n (IsUncovered matters boxes)
outside_there matters boxes h o None there here added = tt
outside_there matters boxes h o (Some k) there here added =
    ⊎_elim (λ e. subst (IsUncovered matters boxes) (sym e) here) (λ e. let at : IfSome (Some k) (IsUncovered matters boxes) = subst (λ v. IfSome v (IsUncovered matters boxes)) e there in at) added.1

-- this is the first of the cell's headers that matters
pub surveyed_gap : (matters : Header → Type 0) (boxes : List Box5) (cell : Box5) (first : Header) (old new : Findings) → AreMeeting boxes cell [] → AreThere matters boxes old
    → IsFirstIn matters cell first → new.least ≡ old.least
    → IsSomeAnd new.outside (λ k. (¬ IsBefore first k) × ((k ≡ first) ⊎ (old.outside ≡ Some k)))
    → IfSome old.outside (λ g. IsSomeAnd new.outside (λ k. ¬ IsBefore g k))
    → IsSurveyed matters boxes cell old new
surveyed_gap matters boxes cell first old new m there is same added kept = record {
  there = record {
    least = subst (λ o. IfSome o (OverlapsLater boxes)) (sym same) there.least;
    outside = outside_there matters boxes first old.outside new.outside there.outside first_uncovered added;
  };
  kept = record {
    least = subst (λ o. IfSome old.least (λ i. IsSomeAnd o (λ k. k ≤ i))) (sym same) (least_itself old.least);
    outside = kept;
  };
  least = record {
    overlaps = λ h a b inside lt one second. absurd (none_held boxes cell a h m inside one);
    uncovered = λ h inside uncovered. inr (upto new.outside h (λ before. is.first h inside before uncovered.matter) added);
  };
}
  where
    first_uncovered : IsUncovered matters boxes first
    first_uncovered = record { matter = is.matter; outside = none_holds boxes first (λ i held. none_held boxes cell i first m is.inside held) }

    upto : (n : Option Header) (h : Header) → ¬ (IsBefore h first) → IsSomeAnd n (λ k. (¬ IsBefore first k) × ((k ≡ first) ⊎ (old.outside ≡ Some k))) → IsSomeAnd n (λ k. ¬ IsBefore h k)
    upto None h after s = absurd s
    upto (Some k) h after s = not_before_trans h first k after s.0

-- ---- a cell whose overlaps are no news

least_upto : (o : Option ℕ) (a b : ℕ) → IsSomeAnd o (λ k. k ≤ a) → a ≤ b → IsSomeAnd o (λ k. k ≤ b)
least_upto None a b s le = s
least_upto (Some k) a b s le = omega arith

some_if : (o : Option ℕ) (a : ℕ) → IsSomeAnd o (λ k. k ≤ a) → IsSome o
some_if None a s = absurd s
some_if (Some k) a s = refl

pub surveyed_before : (matters : Header → Type 0) (boxes : List Box5) (cell : Box5) (numbers : List ℕ) (first : ℕ) (found : Findings) → AreMeeting boxes cell numbers
    → slice_get numbers 0 ≡ Some first → AreThere matters boxes found → IsSomeAnd found.least (λ k. k ≤ first) → IsSurveyed matters boxes cell found found
surveyed_before matters boxes cell numbers first found m head there upto = record {
  there = there;
  kept = no_greater_itself found;
  least = record {
    overlaps = λ h a b inside lt held second. least_upto found.least first a upto (first-held boxes cell numbers first a h m head inside held);
    uncovered = λ h inside out. inl (some_if found.least first upto);
  };
}

-- ---- a cell that a box holds

-- by the only box
pub surveyed_covered : (matters : Header → Type 0) (boxes : List Box5) (cell : Box5) (numbers : List ℕ) (found : Findings) → AreMeeting boxes cell numbers → AreThere matters boxes found
    → Any (HoldsCell boxes cell) numbers → length numbers ≤ 1 → IsSurveyed matters boxes cell found found
surveyed_covered matters boxes cell numbers found m there (k, i, lt, e, holder) few = record {
  there = there;
  kept = no_greater_itself found;
  least = record {
    overlaps = λ h a b inside less first second.
        absurd (alone a b less (m.candidates.all a (meets_if_held boxes cell a h inside first)) (m.candidates.all b (meets_if_held boxes cell b h inside second)));
    uncovered = λ h inside out. absurd (let f = any_holds boxes i h (holder h inside) in let n = out.outside in both_ways (list_any (holds h) boxes) n f);
  };
}
  where
    alone : (a b : ℕ) → a < b → Contains numbers a → Contains numbers b → ⊥
    alone a b less (i, lt, e) (j, more, f) =
        let z : i ≡ 0 = omega arith in
        let w : j ≡ 0 = omega arith in
        let x : get_or numbers 0 a ≡ a = subst (λ n. get_or numbers n a ≡ a) z e in
        let y : get_or numbers 0 b ≡ b = subst (λ n. get_or numbers n b ≡ b) w f in
        let s = get_or_default numbers 0 a b (omega arith) in
        omega (arith, x, y, s)

-- by one of the slices that its boxes are
pub surveyed_slices : (matters : Header → Type 0) (boxes : List Box5) (cell : Box5) (numbers : List ℕ) (found : Findings) → AreMeeting boxes cell numbers → AreThere matters boxes found
    → AreSlices boxes cell numbers → IsSurveyed matters boxes cell found found
surveyed_slices matters boxes cell numbers found m there slices = record {
  there = there;
  kept = no_greater_itself found;
  least = record {
    overlaps = λ h a b inside less first second.
        let same = slices.apart h a b inside (m.candidates.all a (meets_if_held boxes cell a h inside first)) (m.candidates.all b (meets_if_held boxes cell b h inside second)) first second in
        absurd (omega (arith, less, same));
    uncovered = λ h inside out. absurd (let k = slices.held h inside in let f = any_holds boxes k.number h k.held in let n = out.outside in both_ways (list_any (holds h) boxes) n f);
  };
}

above : (o : Option ℕ) (first : ℕ) → (IsSomeAnd o (λ k. k ≤ first) → ⊥) → IfSome o (λ i. first ≤ i)
above None first not_upto = tt
above (Some k) first not_upto = ⊎_elim (λ lt. omega arith) (λ ge. absurd (not_upto (omega arith))) (cases_lt first k)

-- one of several: the first number overlaps another one
pub surveyed_overlap : (matters : Header → Type 0) (boxes : List Box5) (cell : Box5) (numbers : List ℕ) (first : ℕ) (found : Findings) → AreMeeting boxes cell numbers
    → slice_get numbers 0 ≡ Some first → AreThere matters boxes found → (IsSomeAnd found.least (λ k. k ≤ first) → ⊥) → Any (HoldsCell boxes cell) numbers → 1 < length numbers
    → IsSurveyed matters boxes cell found (record { least = Some first; outside = found.outside })
surveyed_overlap matters boxes cell numbers first found m head there not_upto (k, i, lt, e, holder) several = record {
  there = record { least = ⊎_elim later_holder (λ ge. same_holder (omega (arith, least_first))) (cases_lt first i); outside = there.outside };
  kept = record { least = above found.least first not_upto; outside = outside_itself found.outside };
  least = record {
    overlaps = λ h a b inside less held second. first-held boxes cell numbers first a h m head inside held;
    uncovered = λ h inside out. inl refl;
  };
}
  where
    least_first : first ≤ i
    least_first = first-least numbers first i m.candidates.ascending head (k, lt, e)

    later_holder : first < i → OverlapsLater boxes first
    later_holder less =
        let z : 0 < length numbers = omega arith in
        let s = held_if_meets boxes cell first (subst (λ n. meets_at boxes cell n ≡ true) (get_or_from_slice_get numbers 0 first 0 head) (m.each 0 0 z)) in
        record { later = i; after = less; share = record { header = s.header; first = s.held; second = holder s.header s.inside } }

    same_holder : first ≡ i → OverlapsLater boxes first
    same_holder same =
        let z = AllPairs-from_increasing numbers m.candidates.ascending 0 1 0 (omega arith) several in
        let f = get_or_from_slice_get numbers 0 first 0 head in
        let s = held_if_meets boxes cell (get_or numbers 1 0) (m.each 1 0 several) in
        record { later = get_or numbers 1 0; after = omega (arith, z, f); share = record { header = s.header; first = subst (λ n. HoldsAt boxes n s.header) (sym same) (holder s.header s.inside); second = s.held } }

-- ---- by whether there is a cut

pub if_none : (P R : Type 0) (Q S : Cut → Type 0) (o : Option Cut) → is_some o ≡ false → MatchOption o P Q → (P → R) → MatchOption o R S
if_none P R Q S None e m f = f m
if_none P R Q S (Some x) e m f = absurd (cc)

pub if_some : (P R : Type 0) (Q S : Cut → Type 0) (o : Option Cut) → is_some o ≡ true → MatchOption o P Q → ((x : Cut) → Q x → S x) → MatchOption o R S
if_some P R Q S None e m f = absurd (cc)
if_some P R Q S (Some x) e m f = f x m
