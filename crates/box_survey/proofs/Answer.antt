-- What is found of all headers.
use Rattle.std.proofs.Common.{◌≡◌, ℕ, ◌≤◌, ◌<◌, ◌+◌, true, false, Option, None, Some, List, refl, arith, sym, subst, length, slice_get, get_or, inl, inr, ⊎_elim}
use Rattle.std.proofs.lemmas.Bool.{both_ways, cases_lt, true_from_ne_false}
use Rattle.std.proofs.lemmas.Option.{get_or_from_slice_get, slice_get-get_or}
use Rattle.std.specs.List.{All, AllPairs, list_any}
use Rattle.std.specs.Option.{IfSome, IsSome, IsSomeAnd}
use Rattle.vpc_base.specs.Header.{IsBefore}
use Rattle.vpc_base.specs.declared.headers.Header.{Header}
use Rattle.header_boxes.specs.declared.boxes.Box5.{Box5}
use Rattle.header_boxes.specs.Boxes.{holds, AreDisjoint, IsWithin}
use Rattle.header_boxes.proofs.Held.{holds_whole}
use Rattle.box_survey.specs.Survey.{HoldAll, HoldsAt, IsFirstUncovered, IsLeastOverlap, ShareAt}
use Rattle.box_survey.specs.Cells.{meets_at}
use Rattle.box_survey.specs.Findings.{AreFindings, IsNextSharing, IsSurveyed, IsUncovered, OverlapsLater}
use Rattle.box_survey.specs.declared.findings.Findings.{Findings}
use Rattle.box_survey.proofs.Meeting.{held_if_meets, meets_if_held}
use Rattle.box_survey.proofs.Numbers.{number_below}
use Rattle.box_survey.proofs.Listed.{held_at}

-- ---- a cell that holds all boxes and all headers that matter

some_within : (o : Option Box5) (hull : Box5) (h : Header) → ((b : Box5) → o ≡ Some b → IsWithin b hull) → IsSomeAnd o (λ b. holds h b ≡ true) → holds h hull ≡ true
some_within None hull h within held = absurd held
some_within (Some b) hull h within held = holds_whole h b hull (within b refl) held

held_in_hull : (boxes : List Box5) (hull : Box5) (i : ℕ) (h : Header) → All (λ b. IsWithin b hull) boxes → HoldsAt boxes i h → holds h hull ≡ true
held_in_hull boxes hull i h all held =
    some_within (slice_get boxes i) hull h (λ b e. subst (λ x. IsWithin x hull) (get_or_from_slice_get boxes i b b e) (all i b (number_below boxes i h held))) held

pub findings_of_hull : (matters : Header → Type 0) (boxes : List Box5) (whole hull : Box5) (old new : Findings) → ((h : Header) → matters h → holds h whole ≡ true) → IsWithin whole hull → All (λ b. IsWithin b hull) boxes
    → IsSurveyed matters boxes hull old new → AreFindings matters boxes new
findings_of_hull matters boxes whole hull old new held within all surveyed = record {
  there = surveyed.there;
  overlaps = λ a b lt share. surveyed.least.overlaps share.header a b (held_in_hull boxes hull a share.header all share.first) lt share.first share.second;
  uncovered = λ h out. surveyed.least.uncovered h (holds_whole h whole hull within (held h out.matter)) out;
}

-- ---- the next number

at_number : (boxes : List Box5) (i : ℕ) (d : Box5) (h : Header) → i < length boxes → HoldsAt boxes i h → holds h (get_or boxes i d) ≡ true
at_number boxes i d h lt held = subst (λ o. IsSomeAnd o (λ x. holds h x ≡ true)) (slice_get-get_or boxes i d lt) held

share_if_meets : (boxes : List Box5) (i j : ℕ) (d : Box5) → i < length boxes → meets_at boxes (get_or boxes i d) j ≡ true → ShareAt boxes i j
share_if_meets boxes i j d lt t =
    let s = held_if_meets boxes (get_or boxes i d) j t in
    record { header = s.header; first = held_at boxes i d s.header lt s.inside; second = s.held }

meets_if_share : (boxes : List Box5) (i j : ℕ) (d : Box5) → i < length boxes → ShareAt boxes i j → meets_at boxes (get_or boxes i d) j ≡ true
meets_if_share boxes i j d lt share = meets_if_held boxes (get_or boxes i d) j share.header (at_number boxes i d share.header lt share.first) share.second

-- none before j shares a header with the box of i
abbrev pub NoneBefore : List Box5 → ℕ → ℕ → Type 0
NoneBefore boxes i j = (k : ℕ) → i < k → k < j → ShareAt boxes i k → ⊥

pub below_length : (boxes : List Box5) (i : ℕ) → OverlapsLater boxes i → i < length boxes
below_length boxes i o = number_below boxes i o.share.header o.share.first

pub next_if_meets : (boxes : List Box5) (i j : ℕ) (d : Box5) → OverlapsLater boxes i → NoneBefore boxes i j → i < j → meets_at boxes (get_or boxes i d) j ≡ true → IsNextSharing boxes i j
next_if_meets boxes i j d some none lt t = record {
  after = lt;
  share = share_if_meets boxes i j d (below_length boxes i some) t;
  first = λ k above share. ⊎_elim (λ before. absurd (none k above before share)) (λ ge. ge) (cases_lt k j);
}

pub none_before_more : (boxes : List Box5) (i j : ℕ) (d : Box5) → OverlapsLater boxes i → NoneBefore boxes i j → meets_at boxes (get_or boxes i d) j ≡ false → NoneBefore boxes i (j + 1)
none_before_more boxes i j d some none f k above below share =
    ⊎_elim
    (λ before. none k above before share)
    (λ ge.
    let e : k ≡ j = omega arith in
    both_ways (meets_at boxes (get_or boxes i d) j) f (meets_if_share boxes i j d (below_length boxes i some) (subst (λ n. ShareAt boxes i n) e share)))
    (cases_lt k j)

-- some later one does
pub some_before : (boxes : List Box5) (i j : ℕ) → OverlapsLater boxes i → NoneBefore boxes i j → length boxes ≤ j → ⊥
some_before boxes i j some none le =
    let lt = number_below boxes some.later some.share.header some.share.second in none some.later some.after (omega arith) some.share

-- ---- the answer

pub survey_overlap : (matters : Header → Type 0) (boxes : List Box5) (found : Findings) (i j : ℕ) → AreFindings matters boxes found → found.least ≡ Some i → IsNextSharing boxes i j → IsLeastOverlap boxes i j
survey_overlap matters boxes found i j all is next = record {
  below = next.after;
  share = next.share;
  least = λ a b lt share.
      let le : i ≤ a = at found.least is a (all.overlaps a b lt share) in
      ⊎_elim (λ less. inl less) (λ ge. let e : i ≡ a = omega arith in inr (e, next.first b (omega arith) (subst (λ n. ShareAt boxes n b) (sym e) share))) (cases_lt i a);
}
  where
    at : (o : Option ℕ) → o ≡ Some i → (a : ℕ) → IsSomeAnd o (λ k. k ≤ a) → i ≤ a
    at None e a s = absurd s
    at (Some k) e a s = let f : k ≡ i = cc in omega arith

no_number : (o : Option ℕ) (a : ℕ) → o ≡ None → IsSomeAnd o (λ k. k ≤ a) → ⊥
no_number None a e s = s
no_number (Some k) a e s = cc

none_some : (o : Option ℕ) → o ≡ None → IsSome o → ⊥
none_some None e s = cc
none_some (Some k) e s = cc

pub disjoint_if_none : (matters : Header → Type 0) (boxes : List Box5) (found : Findings) → AreFindings matters boxes found → found.least ≡ None → AllPairs AreDisjoint boxes
disjoint_if_none matters boxes found all is i j d lt within h s t =
    no_number found.least i is (all.overlaps i j lt (record { header = h; first = held_at boxes i d h (omega arith) s; second = held_at boxes j d h within t }))

pub first_uncovered : (matters : Header → Type 0) (boxes : List Box5) (found : Findings) (h : Header) → AreFindings matters boxes found → found.least ≡ None → found.outside ≡ Some h → IsFirstUncovered matters boxes h
first_uncovered matters boxes found h all none is =
    let here = there found.outside is all.there.outside in
    record {
      matter = here.matter;
      outside = here.outside;
      first = λ k matter before.
          true_from_ne_false (list_any (holds k) boxes)
          (λ out. ⊎_elim (λ s. none_some found.least none s) (λ s. upto found.outside is k s before) (all.uncovered k (record { matter = matter; outside = out })));
    }
  where
    there : (o : Option Header) → o ≡ Some h → IfSome o (IsUncovered matters boxes) → IsUncovered matters boxes h
    there None e s = absurd (cc)
    there (Some k) e s = let f : k ≡ h = cc in subst (IsUncovered matters boxes) f s

    upto : (o : Option Header) → o ≡ Some h → (k : Header) → IsSomeAnd o (λ g. ¬ IsBefore k g) → IsBefore k h → ⊥
    upto None e k s before = s
    upto (Some g) e k s before = let f : g ≡ h = cc in s (subst (λ x. IsBefore k x) (sym f) before)

pub hold_all : (matters : Header → Type 0) (boxes : List Box5) (found : Findings) → AreFindings matters boxes found → found.least ≡ None → found.outside ≡ None → HoldAll matters boxes
hold_all matters boxes found all none nowhere h matter =
    true_from_ne_false (list_any (holds h) boxes) (λ out. ⊎_elim (λ s. none_some found.least none s) (λ s. no_header found.outside nowhere s) (all.uncovered h (record { matter = matter; outside = out })))
  where
    no_header : (o : Option Header) → o ≡ None → IsSomeAnd o (λ g. ¬ IsBefore h g) → ⊥
    no_header None e s = s
    no_header (Some g) e s = cc
