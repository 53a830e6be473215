-- Bodies and where they end.
use Rattle.std.proofs.Common.{◌≡◌, ℕ, ◌≤◌, ◌+◌, ◌⊎◌, ◌++◌, ◌&&◌, Bool, true, max, min, Option, Some, None, IfNone, IsSome, refl, ap, sym, subst, ◌∙◌, arith, inl, inr, ⊎_elim}
use Rattle.std.proofs.lemmas.Bool.{cases_lt}
use Rattle.std.proofs.lemmas.List.Elements.{Contains-append_left, Contains-append_right}
use Rattle.vpc_base.specs.declared.headers.Header.{Header}
use Rattle.header_boxes.specs.Boxes.{AreDisjoint, IsRangeWithin, IsValid, common_box, common_range, holds, in_range, low_of}
use Rattle.header_boxes.specs.declared.boxes.Box5.{Box5}
use Rattle.header_boxes.proofs.Held.{common_within_first, holds-common_box, holds_low, valid_if_holds, valid_if_within, within_itself}
use Rattle.box_images.specs.Fields.{number_of, side_of}
use Rattle.box_images.specs.Bodies.{Edges, EndsAtEdges, IsBody, IsEdge, range_edges}
use Rattle.box_images.specs.Parts.{TellsRange, ending_at}
use Rattle.box_images.specs.declared.fields.Field.TheVariants.{Of}
use Rattle.box_images.specs.declared.fields.Side.{Side}
use Rattle.box_images.specs.declared.fields.Side.TheVariants.{Proto, Src, Dst, P, Q}
use Rattle.box_images.proofs.SideLemmas.{side_begins, begin-ending_at, end-ending_at, end-ending_at_cases, low_from_sides, number_in_side, side_valid, side_within, within_from_sides}

-- a valid box is a body of itself
pub body_of_itself : (b : Box5) → IsValid b → IsBody b b
body_of_itself b v = record { within = within_itself b v; low = refl }

pub ends_of_itself : (edges : Edges) (b : Box5) → EndsAtEdges edges b b
ends_of_itself edges b = record { ends = λ s. inl refl }

-- a body of a body is a body
pub body_through : (body middle part : Box5) → IsBody body middle → IsBody middle part → IsBody body part
body_through body middle part b m = record {
  within = within_from_sides body part (λ s. through (side_within body middle b.within s) (side_within middle part m.within s));
  low = b.low ∙ m.low;
}
  where
    through : {a b c : ℕ × ℕ} → IsRangeWithin a b → IsRangeWithin b c → IsRangeWithin a c
    through k l =
        let begins = k.begins in
        let around = l.begins in
        let ends = k.ends in
        let past = l.ends in
        record { begins = omega arith; valid = k.valid; ends = omega arith }

-- ---- edges

pub edge_of_first : (few more : Edges) (s : Side) (x : ℕ) → IsEdge few s x → IsEdge (few ++ more) s x
edge_of_first few more s x e = (e.0, Contains-append_left few more (Of s e.0, x + e.0) e.1)

pub edge_of_second : (few more : Edges) (s : Side) (x : ℕ) → IsEdge more s x → IsEdge (few ++ more) s x
edge_of_second few more s x e = (e.0, Contains-append_right few more (Of s e.0, x + e.0) e.1)

pub range_begins : (s : Side) (add lo hi x : ℕ) → x + add ≡ lo → IsEdge (range_edges (Of s add) lo hi) s x
range_begins s add lo hi x e = (add, (0, omega arith, ap (λ (n : ℕ). (Of s add, n)) (sym e)))

pub range_ends : (s : Side) (add lo hi x : ℕ) → x + add ≡ hi + 1 → IsEdge (range_edges (Of s add) lo hi) s x
range_ends s add lo hi x e = (add, (1, omega arith, ap (λ (n : ℕ). (Of s add, n)) (sym e)))

-- a body that ends at some edges ends at more
pub ends_at_first : (few more : Edges) (body part : Box5) → EndsAtEdges few body part → EndsAtEdges (few ++ more) body part
ends_at_first few more body part k = record { ends = λ s. ⊎_elim inl (λ g. inr (edge_of_first few more s _ g)) (k.ends s) }

pub ends_at_second : (few more : Edges) (body part : Box5) → EndsAtEdges more body part → EndsAtEdges (few ++ more) body part
ends_at_second few more body part k = record { ends = λ s. ⊎_elim inl (λ g. inr (edge_of_second few more s _ g)) (k.ends s) }

-- a body of a body ends at the edges of both
pub ends_through : (few more : Edges) (body middle part : Box5) → EndsAtEdges more body middle → EndsAtEdges few middle part
    → EndsAtEdges (few ++ more) body part
ends_through few more body middle part b m = record {
  ends = λ s. ⊎_elim
      (λ e. subst (λ (n : ℕ). (n ≡ (side_of part s).1) ⊎ IsEdge (few ++ more) s (n + 1)) (sym e) ((ends_at_first few more middle part m).ends s))
      (λ g. inr (edge_of_second few more s _ g))
      (b.ends s);
}

-- ---- another upper end

range_within : (new old : ℕ × ℕ) → new.0 ≡ old.0 → new.0 ≤ new.1 → new.1 ≤ old.1 → IsRangeWithin new old
range_within new old e some lower = record { begins = omega arith; valid = some; ends = lower }

pub body_of_ending : (b : Box5) (s : Side) (x : ℕ) → IsValid b → (side_of b s).0 ≤ x → x ≤ (side_of b s).1 → IsBody (ending_at b s x) b
body_of_ending b s x v some lower = record {
  within = within_from_sides (ending_at b s x) b (λ t. ⊎_elim (λ k. changed t k.0 k.1) (λ e. kept t e) (end-ending_at_cases b s t x));
  low = low_from_sides (ending_at b s x) b (λ t. begin-ending_at b s t x);
}
  where
    between : (new old : ℕ × ℕ) (x : ℕ) → new.0 ≡ old.0 → new.1 ≡ x → old.0 ≤ x → x ≤ old.1 → IsRangeWithin new old
    between new old x e f some lower = range_within new old e (omega arith) (omega arith)

    changed : (t : Side) → t ≡ s → (side_of (ending_at b s x) t).1 ≡ x → IsRangeWithin (side_of (ending_at b s x) t) (side_of b t)
    changed t e f =
        between (side_of (ending_at b s x) t) (side_of b t) x (begin-ending_at b s t x) f
        (subst (λ (u : Side). (side_of b u).0 ≤ x) (sym e) some)
        (subst (λ (u : Side). x ≤ (side_of b u).1) (sym e) lower)

    kept : (t : Side) → (side_of (ending_at b s x) t).1 ≡ (side_of b t).1 → IsRangeWithin (side_of (ending_at b s x) t) (side_of b t)
    kept t e = between (side_of (ending_at b s x) t) (side_of b t) (side_of b t).1 (begin-ending_at b s t x) e (side_valid b v t) (omega arith)

pub ends_of_ending : (edges : Edges) (b : Box5) (s : Side) (x : ℕ) → (x ≡ (side_of b s).1) ⊎ IsEdge edges s (x + 1) → EndsAtEdges edges (ending_at b s x) b
ends_of_ending edges b s x e = record { ends = λ t. ⊎_elim (λ k. changed t k.0 k.1) inl (end-ending_at_cases b s t x) }
  where
    changed : (t : Side) → t ≡ s → (side_of (ending_at b s x) t).1 ≡ x
        → ((side_of (ending_at b s x) t).1 ≡ (side_of b t).1) ⊎ IsEdge edges t ((side_of (ending_at b s x) t).1 + 1)
    changed t k f = ⊎_elim
        (λ g. inl (f ∙ g ∙ ap (λ (u : Side). (side_of b u).1) (sym k)))
        (λ g. inr (subst (λ (n : ℕ). IsEdge edges t (n + 1)) (sym f) (subst (λ (u : Side). IsEdge edges u (x + 1)) (sym k) g)))
        e

-- a side that ends at the last number that is in the range as its first one is, or isn't
pub told_of_ending : (b : Box5) (s : Side) (add lo hi x : ℕ) → IsValid b → (side_of b s).0 ≤ x → x ≤ (side_of b s).1
    → (x ≡ (side_of b s).1) ⊎ (x + 1 + add ≡ lo) ⊎ (x + 1 + add ≡ hi + 1)
    → ((n : ℕ) → (side_of b s).0 ≤ n → n ≤ x → in_range (lo, hi) (n + add) ≡ in_range (lo, hi) ((side_of b s).0 + add))
    → TellsRange (Of s add) lo hi b (record { body = ending_at b s x; told = in_range (lo, hi) ((side_of b s).0 + add) })
told_of_ending b s add lo hi x v some lower edge alike = record {
  told = λ h t. let i = number_in_side h (ending_at b s x) t s in sym (alike (number_of h s) (above h i.0) (below h i.1));
  body = body_of_ending b s x v some lower;
  ends = ends_of_ending (range_edges (Of s add) lo hi) b s x
      (⊎_elim inl (λ k. inr (⊎_elim (range_begins s add lo hi (x + 1)) (range_ends s add lo hi (x + 1)) k)) edge);
}
  where
    above : (h : Header) → (side_of (ending_at b s x) s).0 ≤ number_of h s → (side_of b s).0 ≤ number_of h s
    above h le = let e = begin-ending_at b s s x in omega arith

    below : (h : Header) → number_of h s ≤ (side_of (ending_at b s x) s).1 → number_of h s ≤ x
    below h le = let e = end-ending_at b s x in omega arith

-- ---- what two bodies share

side-common_box : (a b : Box5) (s : Side) → side_of (common_box a b) s ≡ common_range (side_of a s) (side_of b s)
side-common_box a b Proto = refl
side-common_box a b Src = refl
side-common_box a b Dst = refl
side-common_box a b P = refl
side-common_box a b Q = refl

-- both bodies hold the low corner
pub low_in_body : (body part : Box5) → IsBody body part → holds (low_of part) body ≡ true
low_in_body body part b = subst (λ (h : Header). holds h body ≡ true) b.low (holds_low body (valid_if_within body part b.within))

low_in_both : (a b part : Box5) → IsBody a part → IsBody b part → (holds (low_of part) a && holds (low_of part) b) ≡ true
low_in_both a b part k l = ap (λ (v : Bool). v && holds (low_of part) b) (low_in_body a part k) ∙ low_in_body b part l

-- so that they meet
pub bodies_meet : (met : Option Box5) (a b part : Box5) → IsBody a part → IsBody b part → IfNone met (AreDisjoint a b) → IsSome met
bodies_meet None a b part k l d = absurd (d (low_of part) (low_in_body a part k) (low_in_body b part l))
bodies_meet (Some m) a b part k l d = refl

pub body_of_both : (a b part : Box5) → IsBody a part → IsBody b part → IsBody (common_box a b) part
body_of_both a b part k l = body_through (common_box a b) a part (record {
  within = common_within_first a b (valid_if_holds (low_of part) (common_box a b) (holds-common_box (low_of part) a b ∙ low_in_both a b part k l));
  low = low_from_sides (common_box a b) a (λ s. ap (λ (r : ℕ × ℕ). r.0) (side-common_box a b s) ∙ first s);
}) k
  where
    first : (s : Side) → max (side_of a s).0 (side_of b s).0 ≡ (side_of a s).0
    first s = let e = side_begins a part k.low s in let f = side_begins b part l.low s in omega arith

pub ends_of_both : (few more : Edges) (a b part : Box5) → EndsAtEdges few a part → EndsAtEdges more b part → EndsAtEdges (few ++ more) (common_box a b) part
ends_of_both few more a b part k l = record {
  ends = λ s. subst (λ (n : ℕ). (n ≡ (side_of part s).1) ⊎ IsEdge (few ++ more) s (n + 1)) (sym (ap (λ (r : ℕ × ℕ). r.1) (side-common_box a b s))) (lesser s);
}
  where
    lesser : (s : Side) → (min (side_of a s).1 (side_of b s).1 ≡ (side_of part s).1) ⊎ IsEdge (few ++ more) s (min (side_of a s).1 (side_of b s).1 + 1)
    lesser s = ⊎_elim
        (λ lt. let e : min (side_of a s).1 (side_of b s).1 ≡ (side_of a s).1 = omega arith in
        subst (λ (n : ℕ). (n ≡ (side_of part s).1) ⊎ IsEdge (few ++ more) s (n + 1)) (sym e) (⊎_elim inl (λ g. inr (edge_of_first few more s _ g)) (k.ends s)))
        (λ ge. let e : min (side_of a s).1 (side_of b s).1 ≡ (side_of b s).1 = omega arith in
        subst (λ (n : ℕ). (n ≡ (side_of part s).1) ⊎ IsEdge (few ++ more) s (n + 1)) (sym e) (⊎_elim inl (λ g. inr (edge_of_second few more s _ g)) (l.ends s)))
        (cases_lt (side_of a s).1 (side_of b s).1)
