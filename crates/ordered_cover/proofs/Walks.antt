-- The boxes that nodes stand for, walked through one after the other.
use Rattle.std.proofs.Common.{◌≡◌, ℕ, ◌≤◌, ◌-◌, ◌++◌, Bool, List, [], ◌∷◌, ap, arith, false, if◌then◌else◌, refl, subst, sym, true, ◌∙◌}
use Rattle.vpc_base.proofs.Lemmas.{nat_tests}
use Rattle.std.specs.Prelude.{reverse}
use Rattle.std.proofs.lemmas.List.{reverse-append}
use Rattle.box_images.specs.Fields.{greatest_on, side_of}
use Rattle.box_images.specs.declared.fields.Side.{Side}
use Rattle.box_images.specs.declared.fields.Side.TheVariants.{Proto, Src, Dst, P, Q}
use Rattle.header_boxes.specs.declared.boxes.Box5.{Box5}
use Rattle.ordered_cover.specs.Trees.{divides, part_below, part_from, with_side}
use Rattle.ordered_cover.specs.Walk.{CanBeCut, CutFits, IsCutAt, IsLeft, later_boxes}
use Rattle.ordered_cover.specs.declared.walk.CutOff.{CutOff}
use Rattle.ordered_cover.specs.declared.walk.CutOff.TheVariants.{Later, Begun}
use Rattle.ordered_cover.proofs.Standing.{with_side-own}

-- ---- one side of a box, changed twice

with_side-again : (b : Box5) (s : Side) (r t : ℕ × ℕ) → with_side (with_side b s r) s t ≡ with_side b s t
with_side-again b Proto r t = refl
with_side-again b Src r t = refl
with_side-again b Dst r t = refl
with_side-again b P r t = refl
with_side-again b Q r t = refl

side_of-own : (b : Box5) (s : Side) (r : ℕ × ℕ) → side_of (with_side b s r) s ≡ r
side_of-own b Proto r = refl
side_of-own b Src r = refl
side_of-own b Dst r = refl
side_of-own b P r = refl
side_of-own b Q r = refl

-- ---- the boxes that come later

-- after a cut the upper part comes next, and then what came before
pub later_boxes-cut : (b : Box5) (s : Side) (c : ℕ) (cuts : List CutOff)
    → later_boxes (part_below b s c) (Later s c (side_of b s).1 ∷ cuts) ≡ part_from b s c ∷ later_boxes b cuts
later_boxes-cut b s c cuts =
    let low : ℕ × ℕ = ((side_of b s).0, c - 1) in
    ap (λ v. v ∷ later_boxes (with_side (with_side b s low) s ((side_of (with_side b s low) s).0, (side_of b s).1)) cuts) (with_side-again b s low (c, (side_of b s).1))
    ∙ ap (λ v. part_from b s c ∷ later_boxes v cuts)
    (ap (λ (r : ℕ × ℕ). with_side (with_side b s low) s (r.0, (side_of b s).1)) (side_of-own b s low)
    ∙ (with_side-again b s low (side_of b s) ∙ with_side-own b s))

-- where the upper part is begun, the same comes after it
pub later_boxes-begun : (b : Box5) (s : Side) (c last : ℕ) (cuts : List CutOff)
    → with_side b s (c, last) ∷ later_boxes (with_side b s (c, last)) (Begun s (side_of b s).0 ∷ cuts) ≡ later_boxes b (Later s c last ∷ cuts)
later_boxes-begun b s c last cuts =
    ap (λ v. with_side b s (c, last) ∷ later_boxes v cuts)
    (ap (λ (r : ℕ × ℕ). with_side (with_side b s (c, last)) s ((side_of b s).0, r.1)) (side_of-own b s (c, last)) ∙ with_side-again b s (c, last) ((side_of b s).0, last))

-- the latest cut comes first
pub later_boxes-last : (b : Box5) (cuts before : List CutOff) (cut : CutOff) → cuts ≡ before ++ cut ∷ [] → later_boxes b (reverse cuts) ≡ later_boxes b (cut ∷ reverse before)
later_boxes-last b cuts before cut e = ap (λ v. later_boxes b v) (ap reverse e ∙ reverse-append before (cut ∷ []))

-- ---- the walk

abbrev pub boxes_at : Bool → Box5 → List CutOff → List Box5
boxes_at over at cuts = if over then [] else at ∷ later_boxes at (reverse cuts)

within_side : (c : ℕ) (r : ℕ × ℕ) → divides c r ≡ true → c ≤ r.1
within_side c r t = grind (arith, nat_tests)

-- the numbers of a cut fit their side
pub cut_fits : (over : Bool) (at : Box5) (cuts : List CutOff) (s : Side) (c : ℕ) (r : ℕ × ℕ) (old : List Box5) → r ≡ side_of at s → r.1 ≤ greatest_on s → boxes_at over at cuts ≡ old → CanBeCut s c old
    → CutFits (Later s c r.1)
cut_fits over at cuts s c r old is fits view can = by over (subst (CanBeCut s c) (sym view) can)
  where
    by : (t : Bool) → CanBeCut s c (boxes_at t at cuts) → CutFits (Later s c r.1)
    by true none = absurd none
    by false inside = let le = within_side c (side_of at s) inside in let e = ap (λ (x : ℕ × ℕ). x.1) is in (omega (arith, le, e, fits), fits)

-- a box is cut
pub cut_walked : (over : Bool) (at at2 : Box5) (cuts cuts2 : List CutOff) (s : Side) (c : ℕ) (r : ℕ × ℕ) (old : List Box5) → r ≡ side_of at s → at2 ≡ with_side at s (r.0, c - 1)
    → cuts2 ≡ cuts ++ Later s c r.1 ∷ [] → boxes_at over at cuts ≡ old → CanBeCut s c old → IsCutAt s c old (boxes_at over at2 cuts2)
cut_walked over at at2 cuts cuts2 s c r old is at_is cuts_are view can =
    subst (λ v. IsCutAt s c v (boxes_at over at2 cuts2)) view (by over (subst (CanBeCut s c) (sym view) can))
  where
    below : at2 ≡ part_below at s c
    below = at_is ∙ ap (λ (x : ℕ × ℕ). with_side at s (x.0, c - 1)) is

    by : (t : Bool) → CanBeCut s c (boxes_at t at cuts) → IsCutAt s c (boxes_at t at cuts) (boxes_at t at2 cuts2)
    by true none = none
    by false inside =
        ap (λ b. b ∷ later_boxes b (reverse cuts2)) below
        ∙ ap (λ v. part_below at s c ∷ v)
        (later_boxes-last (part_below at s c) cuts2 cuts (Later s c r.1) cuts_are
        ∙ (ap (λ (x : ℕ × ℕ). later_boxes (part_below at s c) (Later s c x.1 ∷ reverse cuts)) is ∙ later_boxes-cut at s c (reverse cuts)))

-- what comes later is still the same
abbrev pub ComesLater : Box5 → List CutOff → Box5 → List CutOff → Type 0
ComesLater at cuts first all = later_boxes at (reverse cuts) ≡ later_boxes first (reverse all)

-- a part that comes later is begun
pub leave_to : (over over2 : Bool) (first at at2 : Box5) (all cuts before cuts2 : List CutOff) (s : Side) (c last : ℕ) (r : ℕ × ℕ) (old : List Box5) → over2 ≡ over → ComesLater at cuts first all
    → cuts ≡ before ++ Later s c last ∷ [] → r ≡ side_of at s → at2 ≡ with_side at s (c, last) → cuts2 ≡ before ++ Begun s r.0 ∷ [] → boxes_at over first all ≡ old
    → IsLeft old (boxes_at over2 at2 cuts2)
leave_to over over2 first at at2 all cuts before cuts2 s c last r old same later ended is at_is cuts_are view =
    subst (λ v. IsLeft v (boxes_at over2 at2 cuts2)) view (subst (λ t. IsLeft (boxes_at over first all) (boxes_at t at2 cuts2)) (sym same) (by over))
  where
    next : at2 ∷ later_boxes at2 (reverse cuts2) ≡ later_boxes first (reverse all)
    next =
        ap (λ b. b ∷ later_boxes b (reverse cuts2)) at_is
        ∙ (ap (λ v. with_side at s (c, last) ∷ v) (later_boxes-last (with_side at s (c, last)) cuts2 before (Begun s r.0) cuts_are)
        ∙ (ap (λ (x : ℕ × ℕ). with_side at s (c, last) ∷ later_boxes (with_side at s (c, last)) (Begun s x.0 ∷ reverse before)) is
        ∙ (later_boxes-begun at s c last (reverse before) ∙ (sym (later_boxes-last at cuts before (Later s c last) ended) ∙ later))))

    by : (t : Bool) → IsLeft (boxes_at t first all) (boxes_at t at2 cuts2)
    by true = refl
    by false = next

-- a part that was begun is whole again
pub leave_past : (first at at2 : Box5) (all cuts before : List CutOff) (s : Side) (low : ℕ) (r : ℕ × ℕ) → ComesLater at cuts first all → cuts ≡ before ++ Begun s low ∷ []
    → r ≡ side_of at s → at2 ≡ with_side at s (low, r.1) → ComesLater at2 before first all
leave_past first at at2 all cuts before s low r later ended is at_is =
    ap (λ b. later_boxes b (reverse before)) (at_is ∙ ap (λ (x : ℕ × ℕ). with_side at s (low, x.1)) is) ∙ (sym (later_boxes-last at cuts before (Begun s low) ended) ∙ later)

-- nothing comes later
pub leave_all : (over : Bool) (first at : Box5) (all cuts : List CutOff) (old : List Box5) → ComesLater at cuts first all → cuts ≡ [] → boxes_at over first all ≡ old → IsLeft old []
leave_all over first at all cuts old later none view = subst (λ v. IsLeft v []) view (by over)
  where
    by : (t : Bool) → IsLeft (boxes_at t first all) []
    by true = refl
    by false = sym (ap (λ v. later_boxes at (reverse v)) none) ∙ later
