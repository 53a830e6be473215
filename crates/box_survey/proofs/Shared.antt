-- Which of a few boxes share a header.
use Rattle.std.proofs.Common.{Any, Contains, IfSome, IsSomeAnd, List, None, Option, Some, [], ap, arith, drop, get_or, inr, length, refl, slice_get, subst, suc, sym, take, true, zero, ℕ, ⊎_elim, ◌-◌, ◌<◌, ◌∷◌, ◌≡◌, ◌≤◌, ◌⊎◌}
use native.Mathlib.Numerals.{unary_clauses}
use Rattle.vpc_base.proofs.Lemmas.{AllPairs-from_increasing, Any-from_list_any, cases_lt, list_any-from_Any, take_all}
use Rattle.std.specs.List.{list_any}
use Rattle.std.specs.List.Sorted.{IsStrictlyIncreasing}
use Rattle.header_boxes.specs.Boxes.{holds}
use Rattle.header_boxes.specs.declared.boxes.Box5.{Box5}
use Rattle.vpc_base.specs.declared.headers.Header.{Header}
use Rattle.vpc_base.specs.Header.{IsBefore}
use Rattle.box_survey.specs.Terms.{AreMeeting, AreThere, Findings, HoldsAt, IsCompared, IsFirstSharing, IsPast, IsSurveyed, IsUncovered, OverlapsLater, ShareAt, meets_at}
use Rattle.box_survey.specs.Findings as findings
use Rattle.box_survey.proofs.Kept.{no_greater_itself, outside_itself}
use Rattle.box_survey.proofs.Meeting.{held_if_meets, meets_if_held}
use Rattle.box_survey.proofs.Numbers.{first-least}

-- ---- two boxes

share_with : (boxes : List Box5) (i j : ℕ) (b : Box5) → slice_get boxes i ≡ Some b → meets_at boxes b j ≡ true → ShareAt boxes i j
share_with boxes i j b is t =
    let s = held_if_meets boxes b j t in
    record { header = s.header; first = subst (λ o. IsSomeAnd o (λ x. holds s.header x ≡ true)) (sym is) s.inside; second = s.held }

meet_if_share : (boxes : List Box5) (i j : ℕ) (b : Box5) → slice_get boxes i ≡ Some b → ShareAt boxes i j → meets_at boxes b j ≡ true
meet_if_share boxes i j b is share = meets_if_held boxes b j share.header (subst (λ o. IsSomeAnd o (λ x. holds share.header x ≡ true)) is share.first) share.second

-- ---- one box and others

pub any_if_meets : (boxes : List Box5) (i : ℕ) (b : Box5) (others : List ℕ) → slice_get boxes i ≡ Some b → list_any (meets_at boxes b) others ≡ true → Any (ShareAt boxes i) others
any_if_meets boxes i b others is t =
    let (k, d, lt, e, s) = Any-from_list_any (meets_at boxes b) others t in (k, d, lt, e, share_with boxes i d b is s)

pub meets_if_any : (boxes : List Box5) (i : ℕ) (b : Box5) (others : List ℕ) → slice_get boxes i ≡ Some b → Any (ShareAt boxes i) others → list_any (meets_at boxes b) others ≡ true
meets_if_any boxes i b others is (k, d, lt, e, share) = list_any-from_Any (meets_at boxes b) others (k, d, lt, e, meet_if_share boxes i d b is share)

pub none_if_no_box : (boxes : List Box5) (i : ℕ) (others : List ℕ) → slice_get boxes i ≡ None → Any (ShareAt boxes i) others → ⊥
none_if_no_box boxes i others none (k, d, lt, e, share) = subst (λ o. IsSomeAnd o (λ x. holds share.header x ≡ true)) none share.first

-- ---- the first of several

pub none_of_nothing : (boxes : List Box5) → IsFirstSharing boxes [] None
none_of_nothing boxes = record { later = tt; least = λ a b lt (k, less, e) there share. absurd (omega (arith, less)) }

-- a later number stands behind the first
after_first : (first : ℕ) (rest : List ℕ) (x : ℕ) → Contains (first ∷ rest) x → (first < x) → Contains rest x
after_first first rest x (zero, lt, e) less = absurd (omega (arith, e, less))
after_first first rest x (suc k, lt, e) less = (k, omega arith, e)

first_below : (first : ℕ) (rest : List ℕ) (k d : ℕ) → IsStrictlyIncreasing (first ∷ rest) → k < length rest → first < get_or rest k d
first_below first rest k d up lt = AllPairs-from_increasing (first ∷ rest) up 0 (suc k) d (omega arith) (omega arith)

pub first_if_shares : (boxes : List Box5) (first : ℕ) (rest : List ℕ) → IsStrictlyIncreasing (first ∷ rest) → Any (ShareAt boxes first) rest → IsFirstSharing boxes (first ∷ rest) (Some first)
first_if_shares boxes first rest up (k, d, lt, e, share) = record {
  later = record { later = d; after = let less = first_below first rest k d up lt in omega (arith, less, e); share = share };
  least = λ a b less one other common. first-least (first ∷ rest) first a up refl one;
}

pub first_of_rest : (boxes : List Box5) (first : ℕ) (rest : List ℕ) (found : Option ℕ) → IsStrictlyIncreasing (first ∷ rest) → (Any (ShareAt boxes first) rest → ⊥) → IsFirstSharing boxes rest found
    → IsFirstSharing boxes (first ∷ rest) found
first_of_rest boxes first rest found up none of_rest = record {
  later = of_rest.later;
  least = λ a b lt one other share.
      let le : first ≤ a = first-least (first ∷ rest) first a up refl one in
      let behind : Contains rest b = after_first first rest b other (omega (arith, le, lt)) in
      ⊎_elim
      (λ less. of_rest.least a b lt (after_first first rest a one less) behind share)
      (λ ge. let same : a ≡ first = omega (arith, le, ge) in absurd (none (behind.0, b, behind.1, behind.2, subst (λ n. ShareAt boxes n b) same share)))
      (cases_lt first a);
}

-- the numbers after the first
abbrev pub rest_of : List ℕ → List ℕ
rest_of xs = take (length xs - 1) (drop 1 xs)

rest_after : (x : ℕ) (xs : List ℕ) → rest_of (x ∷ xs) ≡ xs
rest_after x xs = take_all (length (x ∷ xs) - 1) xs (omega arith)

pub shorter : (xs : List ℕ) → 0 < length xs → length (rest_of xs) < length xs
shorter [] lt = absurd (omega (arith, lt))
shorter (x ∷ xs) lt = omega (arith, ap length (rest_after x xs))

pub rest_increasing : (xs : List ℕ) → 0 < length xs → IsStrictlyIncreasing xs → IsStrictlyIncreasing (rest_of xs)
rest_increasing [] lt up = absurd (omega (arith, lt))
rest_increasing (x ∷ xs) lt up = subst IsStrictlyIncreasing (sym (rest_after x xs)) (λ k less. let next = simp unary_clauses at (up (suc k) (omega (arith, less))) in simp unary_clauses next)

pub first_at_shares : (boxes : List Box5) (xs : List ℕ) → 0 < length xs → IsStrictlyIncreasing xs → Any (ShareAt boxes (get_or xs 0 0)) (rest_of xs) → IsFirstSharing boxes xs (Some (get_or xs 0 0))
first_at_shares boxes [] lt up any = absurd (omega (arith, lt))
first_at_shares boxes (x ∷ xs) lt up any = first_if_shares boxes x xs up (subst (Any (ShareAt boxes x)) (rest_after x xs) any)

pub first_behind : (boxes : List Box5) (xs : List ℕ) (found : Option ℕ) → 0 < length xs → IsStrictlyIncreasing xs → (Any (ShareAt boxes (get_or xs 0 0)) (rest_of xs) → ⊥)
    → IsFirstSharing boxes (rest_of xs) found → IsFirstSharing boxes xs found
first_behind boxes [] found lt up none of_rest = absurd (omega (arith, lt))
first_behind boxes (x ∷ xs) found lt up none of_rest =
    first_of_rest boxes x xs found up (λ any. none (subst (Any (ShareAt boxes x)) (sym (rest_after x xs)) any)) (subst (λ ys. IsFirstSharing boxes ys found) (rest_after x xs) of_rest)

-- ---- what a comparison adds to what was found

overlaps_of : (boxes : List Box5) (cell : Box5) (numbers : List ℕ) (found : Option ℕ) → AreMeeting boxes cell numbers → IsFirstSharing boxes numbers found
    → (h : Header) (a b : ℕ) → holds h cell ≡ true → a < b → HoldsAt boxes a h → HoldsAt boxes b h → IsSomeAnd found (λ k. k ≤ a)
overlaps_of boxes cell numbers found m first h a b inside lt one other =
    first.least a b lt (m.candidates.all a (meets_if_held boxes cell a h inside one)) (m.candidates.all b (meets_if_held boxes cell b h inside other)) (record { header = h; first = one; second = other })

surveyed_apart : (matters : Header → Type 0) (boxes : List Box5) (cell : Box5) (numbers : List ℕ) (found : Findings) → AreMeeting boxes cell numbers → AreThere matters boxes found → IsPast found cell
    → IsFirstSharing boxes numbers None → IsSurveyed matters boxes cell found found
surveyed_apart matters boxes cell numbers found m there past none = record {
  there = there;
  kept = no_greater_itself found;
  least = record {
    overlaps = λ h a b inside lt one other. absurd (overlaps_of boxes cell numbers None m none h a b inside lt one other);
    uncovered = λ h inside out. inr (past h inside);
  };
}

number_there : (boxes : List Box5) (number : ℕ) (o n : Option ℕ) → IfSome o (OverlapsLater boxes) → OverlapsLater boxes number
    → IsSomeAnd n (λ k. (k ≤ number) × ((k ≡ number) ⊎ (o ≡ Some k))) → IfSome n (OverlapsLater boxes)
number_there boxes number o None there here added = tt
number_there boxes number o (Some k) there here added =
    ⊎_elim (λ e. subst (OverlapsLater boxes) (sym e) here) (λ e. let at : IfSome (Some k) (OverlapsLater boxes) = subst (λ v. IfSome v (OverlapsLater boxes)) e there in at) added.1

number_upto : (number a : ℕ) (o n : Option ℕ) → IsSomeAnd n (λ k. (k ≤ number) × ((k ≡ number) ⊎ (o ≡ Some k))) → number ≤ a → IsSomeAnd n (λ k. k ≤ a)
number_upto number a o None added le = absurd added
number_upto number a o (Some k) added le = omega (arith, added.0, le)

surveyed_sharing : (matters : Header → Type 0) (boxes : List Box5) (cell : Box5) (numbers : List ℕ) (number : ℕ) (old new : Findings) → AreMeeting boxes cell numbers → AreThere matters boxes old → IsPast old cell
    → IsFirstSharing boxes numbers (Some number) → IsSomeAnd new.least (λ k. (k ≤ number) × ((k ≡ number) ⊎ (old.least ≡ Some k)))
    → IfSome old.least (λ i. IsSomeAnd new.least (λ k. k ≤ i)) → new.outside ≡ old.outside → IsSurveyed matters boxes cell old new
surveyed_sharing matters boxes cell numbers number old new m there past first added kept same = record {
  there = record {
    least = number_there boxes number old.least new.least there.least first.later added;
    outside = subst (λ o. IfSome o (IsUncovered matters boxes)) (sym same) there.outside;
  };
  kept = record {
    least = kept;
    outside = subst (λ o. IfSome old.outside (λ h. IsSomeAnd o (λ k. ¬ IsBefore h k))) (sym same) (outside_itself old.outside);
  };
  least = record {
    overlaps = λ h a b inside lt one other. number_upto number a old.least new.least added (overlaps_of boxes cell numbers (Some number) m first h a b inside lt one other);
    uncovered = λ h inside out. inr (subst (λ o. IsSomeAnd o (λ k. ¬ IsBefore h k)) (sym same) (past h inside));
  };
}

pub surveyed_compared : (matters : Header → Type 0) (boxes : List Box5) (cell : Box5) (numbers : List ℕ) (old new : Findings) → AreMeeting boxes cell numbers → AreThere matters boxes old → IsPast old cell
    → IsCompared boxes numbers old new → IsSurveyed matters boxes cell old new
surveyed_compared matters boxes cell numbers old new m there past (findings.apart none same) =
    subst (IsSurveyed matters boxes cell old) (sym same) (surveyed_apart matters boxes cell numbers old m there past none)
surveyed_compared matters boxes cell numbers old new m there past (findings.sharing number first added kept same) =
    surveyed_sharing matters boxes cell numbers number old new m there past first added kept same
