-- The first request of a gap that has to be in a row.
use Rattle.std.proofs.Common.{◌&&◌, ◌+◌, ◌<◌, ◌||◌, ◌≡◌, ◌∙◌, ◌⊎◌, All, List, None, Option, Some, get_or, inl, inr, length, refl, subst, sym, take, true, ⊎_elim, ℕ}
use Rattle.std.proofs.lemmas.List.Folds.{Any-from_list_any, list_any_more}
use Rattle.std.specs.Cmp.{first_so, second_so}
use Rattle.std.specs.Option.{IfSome, IsSomeAnd}
use Rattle.std.proofs.lemmas.Bool.{and_from, or_cases, or_left, or_right}
use Rattle.box_gather.specs.Over.{is_in}
use Rattle.box_survey.proofs.Kept.{outside_at, outside_itself}
use Rattle.box_survey.proofs.Order.{not_before_trans}
use Rattle.box_survey.specs.Survey.{IsFirstIn, IsFirstMattering}
use Rattle.header_boxes.proofs.Held.{holds_whole}
use Rattle.header_boxes.specs.Boxes.{IsWithin, holds}
use Rattle.header_boxes.specs.declared.boxes.Box5.{Box5}
use Rattle.vpc_base.specs.Header.{IsBefore}
use Rattle.vpc_base.specs.declared.headers.Header.{Header}
use Rattle.listing_check.specs.Due.{IsDue, IsFirstWith, IsToldIn}
use Rattle.listing_check.specs.Looks.{IsOther}

-- ---- the boxes that are asked for

-- a box that holds all of them holds their headers
pub held_in_hull : (boxes : List Box5) (hull : Box5) → All (λ b. IsWithin b hull) boxes → (h : Header) → is_in boxes h ≡ true → holds h hull ≡ true
held_in_hull boxes hull all h is =
    let (k, b, below, at, held) = Any-from_list_any (λ c. holds h c) boxes is in
    holds_whole h b hull (subst (λ c. IsWithin c hull) at (all k b below)) held

-- ---- one box

-- what is told of the headers that it has in common with a gap
pub told_in_common : (told : Header → Option (List ℕ)) (part gap common : Box5) → ((h : Header) → holds h common ≡ (holds h part && holds h gap))
    → (o : Option Header) → IsOther told None common o → IsFirstMattering (IsToldIn told part) gap o
told_in_common told part gap common holds_both None none = λ h inside tells. tells.1 (none h (holds_both h ∙ and_from (holds h part) (holds h gap) tells.0 inside))
told_in_common told part gap common holds_both (Some h) is =
    let in_both = sym (holds_both h) ∙ is.inside in
    record {
      inside = second_so (holds h part) (holds h gap) in_both;
      matter = (first_so (holds h part) (holds h gap) in_both, is.other);
      first = λ k inside before tells. tells.1 (is.first k (holds_both k ∙ and_from (holds k part) (holds k gap) tells.0 inside) before);
    }

-- ---- what was found, and one box more

found_before : (P : Header → Type 0) (found : Option Header) → IfSome found (λ h. (found ≡ Some h) ⊎ P h)
found_before P None = tt
found_before P (Some h) = inl refl

pub with_none : (told : Header → Option (List ℕ)) (part gap : Box5) (found : Option Header) → IsFirstMattering (IsToldIn told part) gap None → IsFirstWith told part gap found found
with_none told part gap found none = record {
  there = found_before (λ h. (holds h gap ≡ true) × IsToldIn told part h) found;
  kept = outside_itself found;
  first = λ h inside tells. absurd (none h inside tells);
}

pub with_some : (told : Header → Option (List ℕ)) (part gap : Box5) (found : Option Header) (h r : Header) → IsFirstIn (IsToldIn told part) gap h
    → (r ≡ h) ⊎ (found ≡ Some r) → ¬ (IsBefore h r) → IfSome found (λ g. ¬ (IsBefore g r)) → IsFirstWith told part gap found (Some r)
with_some told part gap found h r is either upto_new upto_found = record {
  there = ⊎_elim (λ new. inr (subst (λ x. (holds x gap ≡ true) × IsToldIn told part x) (sym new) (is.inside, is.matter))) (λ old. inl old) either;
  kept = upto_found;
  first = λ k inside tells. not_before_trans k h r (λ before. is.first k inside before tells) upto_new;
}

-- ---- all boxes

-- what is found of the headers of a gap that matter
pub record IsFoundIn (matters : Header → Type 0) (gap : Box5) (o : Option Header) : Type 0 where
  pub there : IfSome o (λ h. (holds h gap ≡ true) × matters h)
  pub first : (h : Header) → holds h gap ≡ true → matters h → IsSomeAnd o (λ k. ¬ IsBefore h k)

pub first_if_found : (matters : Header → Type 0) (gap : Box5) (o : Option Header) → IsFoundIn matters gap o → IsFirstMattering matters gap o
first_if_found matters gap None found = λ h inside matter. found.first h inside matter
first_if_found matters gap (Some h) found = record {
  inside = found.there.0;
  matter = found.there.1;
  first = λ k inside before matter. found.first k inside matter before;
}

pub found_in_none : (told : Header → Option (List ℕ)) (boxes : List Box5) (gap : Box5) → IsFoundIn (IsDue told (take 0 boxes)) gap None
found_in_none told boxes gap = record { there = tt; first = λ h inside due. let none = due.0 in absurd (cc) }

module _ (told : Header → Option (List ℕ)) (boxes : List Box5) (k : ℕ) (part : Box5) (below : k < length boxes) (is : part ≡ get_or boxes k part) where
  more : (h : Header) → is_in (take (k + 1) boxes) h ≡ (is_in (take k boxes) h || holds h (get_or boxes k part))
  more h = list_any_more (λ b. holds h b) boxes k part below

  due_before : (h : Header) → IsDue told (take k boxes) h → IsDue told (take (k + 1) boxes) h
  due_before h due = (more h ∙ or_left (is_in (take k boxes) h) (holds h (get_or boxes k part)) due.0, due.1)

  due_here : (h : Header) → IsToldIn told part h → IsDue told (take (k + 1) boxes) h
  due_here h tells =
      let here = subst (λ b. holds h b ≡ true) is tells.0 in
      (more h ∙ or_right (is_in (take k boxes) h) (holds h (get_or boxes k part)) here, tells.1)

  due_cases : (h : Header) → IsDue told (take (k + 1) boxes) h → IsDue told (take k boxes) h ⊎ IsToldIn told part h
  due_cases h due =
      ⊎_elim (λ old. inl (old, due.1)) (λ new. inr (subst (λ b. holds h b ≡ true) (sym is) new, due.1))
      (or_cases (is_in (take k boxes) h) (holds h (get_or boxes k part)) (sym (more h) ∙ due.0))

  there_more : (gap : Box5) (found result : Option Header) → IfSome found (λ h. (holds h gap ≡ true) × IsDue told (take k boxes) h)
      → IfSome result (λ h. (found ≡ Some h) ⊎ ((holds h gap ≡ true) × IsToldIn told part h))
      → IfSome result (λ h. (holds h gap ≡ true) × IsDue told (take (k + 1) boxes) h)
  there_more gap found None there added = tt
  there_more gap found (Some h) there added =
      ⊎_elim
      (λ old. let at : IfSome (Some h) (λ x. (holds x gap ≡ true) × IsDue told (take k boxes) x) = subst (λ o. IfSome o (λ x. (holds x gap ≡ true) × IsDue told (take k boxes) x)) old there in (at.0, due_before h at.1))
      (λ new. (new.0, due_here h new.1)) added

  pub found_more : (gap : Box5) (found result : Option Header) → IsFoundIn (IsDue told (take k boxes)) gap found → IsFirstWith told part gap found result
      → IsFoundIn (IsDue told (take (k + 1) boxes)) gap result
  found_more gap found result before added = record {
    there = there_more gap found result before.there added.there;
    first = λ h inside due.
        ⊎_elim (λ old. outside_at found result h (before.first h inside old) added.kept) (λ new. added.first h inside new) (due_cases h due);
  }
