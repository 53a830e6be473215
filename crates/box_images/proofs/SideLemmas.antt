-- Boxes and headers by sides.
use Rattle.std.proofs.Common.{◌≡◌, ℕ, ◌≤◌, ◌⊎◌, true, refl, ap, inl, inr}
use Rattle.vpc_base.specs.declared.headers.Header.{Header}
use Rattle.header_boxes.specs.Boxes.{IsRangeWithin, IsValid, IsWithin, holds, low_of}
use Rattle.header_boxes.specs.declared.boxes.Box5.{Box5}
use Rattle.header_boxes.proofs.Held.{in_from_holds}
use Rattle.header_boxes.proofs.Order.{same_fields}
use Rattle.box_images.specs.Fields.{number_of, side_of}
use Rattle.box_images.specs.Parts.{ending_at}
use Rattle.box_images.specs.declared.fields.Side.{Side}
use Rattle.box_images.specs.declared.fields.Side.TheVariants.{Proto, Src, Dst, P, Q}

-- a header of a box lies in each side
pub number_in_side : (h : Header) (b : Box5) → holds h b ≡ true → (s : Side) → ((side_of b s).0 ≤ number_of h s) × (number_of h s ≤ (side_of b s).1)
number_in_side h b t Proto = (in_from_holds h b t).proto
number_in_side h b t Src = (in_from_holds h b t).src
number_in_side h b t Dst = (in_from_holds h b t).dst
number_in_side h b t P = (in_from_holds h b t).p
number_in_side h b t Q = (in_from_holds h b t).q

-- no side of a valid box is empty
pub side_valid : (b : Box5) → IsValid b → (s : Side) → (side_of b s).0 ≤ (side_of b s).1
side_valid b v Proto = v.proto
side_valid b v Src = v.src
side_valid b v Dst = v.dst
side_valid b v P = v.p
side_valid b v Q = v.q

-- the sides of a part lie in those of the whole
pub side_within : (part whole : Box5) → IsWithin part whole → (s : Side) → IsRangeWithin (side_of part s) (side_of whole s)
side_within part whole w Proto = w.proto
side_within part whole w Src = w.src
side_within part whole w Dst = w.dst
side_within part whole w P = w.p
side_within part whole w Q = w.q

pub within_from_sides : (part whole : Box5) → ((s : Side) → IsRangeWithin (side_of part s) (side_of whole s)) → IsWithin part whole
within_from_sides part whole w = record { proto = w Proto; src = w Src; dst = w Dst; p = w P; q = w Q }

-- two boxes with one low corner begin alike on each side
pub side_begins : (a b : Box5) → low_of a ≡ low_of b → (s : Side) → (side_of a s).0 ≡ (side_of b s).0
side_begins a b e Proto = ap (λ (h : Header). h.proto) e
side_begins a b e Src = ap (λ (h : Header). h.src) e
side_begins a b e Dst = ap (λ (h : Header). h.dst) e
side_begins a b e P = ap (λ (h : Header). h.p) e
side_begins a b e Q = ap (λ (h : Header). h.q) e

pub low_from_sides : (a b : Box5) → ((s : Side) → (side_of a s).0 ≡ (side_of b s).0) → low_of a ≡ low_of b
low_from_sides a b e = same_fields (low_of a) (low_of b) (e Proto) (e Src) (e Dst) (e P) (e Q)

-- ---- another upper end

-- each side begins as before
pub begin-ending_at : (b : Box5) (s t : Side) (x : ℕ) → (side_of (ending_at b s x) t).0 ≡ (side_of b t).0
begin-ending_at b Proto Proto x = refl
begin-ending_at b Src Src x = refl
begin-ending_at b Dst Dst x = refl
begin-ending_at b P P x = refl
begin-ending_at b Q Q x = refl
begin-ending_at b _ _ x = refl

-- the one side ends at the number
pub end-ending_at : (b : Box5) (s : Side) (x : ℕ) → (side_of (ending_at b s x) s).1 ≡ x
end-ending_at b Proto x = refl
end-ending_at b Src x = refl
end-ending_at b Dst x = refl
end-ending_at b P x = refl
end-ending_at b Q x = refl

-- and the others as before
pub end-ending_at_cases : (b : Box5) (s t : Side) (x : ℕ)
    → ((t ≡ s) × ((side_of (ending_at b s x) t).1 ≡ x)) ⊎ ((side_of (ending_at b s x) t).1 ≡ (side_of b t).1)
end-ending_at_cases b Proto Proto x = inl (refl, refl)
end-ending_at_cases b Src Src x = inl (refl, refl)
end-ending_at_cases b Dst Dst x = inl (refl, refl)
end-ending_at_cases b P P x = inl (refl, refl)
end-ending_at_cases b Q Q x = inl (refl, refl)
end-ending_at_cases b _ _ x = inr refl
