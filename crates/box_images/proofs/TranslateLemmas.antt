-- Shifted ports and replies.
use Rattle.std.proofs.Common.{◌≡◌, ℕ, zero, suc, ◌≤◌, ◌<◌, ◌+◌, ◌⊎◌, ◌∷◌, [], List, Bool, true, false, Option, Some, None, IfSome, refl, ap, sym, subst, ◌∙◌, arith, inl, inr, ⊎_elim}
use Rattle.std.proofs.lemmas.Bool.Decides.{nat_tests}
use Rattle.std.specs.List.{Contains}
use Rattle.vpc_base.specs.declared.headers.Header.{Header}
use Rattle.header_boxes.specs.Boxes.{IsValid, IsWithin, holds, in_range, low_of}
use Rattle.header_boxes.specs.declared.boxes.Box5.{Box5}
use Rattle.header_boxes.proofs.Held.{holds_from_in, holds_low, valid_if_within}
use Rattle.box_images.specs.Fields.{HasOffset, greatest_of, side_of, value_of}
use Rattle.box_images.specs.Images.{IsImageOfAnswer, IsImageOfOpen, IsPort, IsValidImage}
use Rattle.box_images.specs.Bodies.{EndsAtEdges, range_edges}
use Rattle.box_images.specs.Parts.{TellsRange, echo_image, exchanged_image, raised}
use Rattle.box_images.specs.declared.fields.Field.{Field}
use Rattle.box_images.specs.declared.fields.Field.TheVariants.{Fixed, Of}
use Rattle.box_images.specs.declared.fields.Side.{Side}
use Rattle.box_images.specs.declared.fields.Side.TheVariants.{Proto, Src, Dst, P, Q}
use Rattle.box_images.specs.declared.images.Image.{Image}
use Rattle.box_images.specs.declared.images.Part.{Part}
use Rattle.box_images.proofs.ImageLemmas.{FitsSide, fits_side, fits_within, fixed_fits, valid_if_fit}

-- ---- a field that lies in a range over a whole body

-- the header of the five upper ends
abbrev pub high_of : Box5 → Header
high_of b = record { proto = b.proto.1; src = b.src.1; dst = b.dst.1; p = b.p.1; q = b.q.1 }

holds_high : (b : Box5) → IsValid b → holds (high_of b) b ≡ true
holds_high b v = holds_from_in (high_of b) b (record { proto = ends v.proto; src = ends v.src; dst = ends v.dst; p = ends v.p; q = ends v.q })
  where
    ends : {x y : ℕ} → x ≤ y → (x ≤ y) × (y ≤ y)
    ends h = (h, omega arith)

value_of-high : (f : Field) (b : Box5) → value_of f (high_of b) ≡ greatest_of f b
value_of-high (Fixed n) b = refl
value_of-high (Of Proto add) b = refl
value_of-high (Of Src add) b = refl
value_of-high (Of Dst add) b = refl
value_of-high (Of P add) b = refl
value_of-high (Of Q add) b = refl

pub range_of_value : (lo hi v : ℕ) → true ≡ in_range (lo, hi) v → (lo ≤ v) × (v ≤ hi)
range_of_value lo hi v e = (grind (arith, nat_tests), grind (arith, nat_tests))

-- all of its values are in the range
pub value_told : (part : Box5) (f : Field) (lo hi : ℕ) (x : Part Bool) → TellsRange f lo hi part x → x.told ≡ true
    → (h : Header) → holds h x.body ≡ true → (lo ≤ value_of f h) × (value_of f h ≤ hi)
value_told part f lo hi x k e h t = range_of_value lo hi (value_of f h) (sym e ∙ k.told h t)

-- the greatest one too
pub greatest_told : (part : Box5) (f : Field) (lo hi : ℕ) (x : Part Bool) → TellsRange f lo hi part x → x.told ≡ true → greatest_of f x.body ≤ hi
greatest_told part f lo hi x k e =
    subst (λ (n : ℕ). n ≤ hi) (value_of-high f x.body)
    (value_told part f lo hi x k e (high_of x.body) (holds_high x.body (valid_if_within x.body part k.body.within))).1

-- ---- shifted ports

pub low_port_at : (i : Image) (x : Part Bool) → TellsRange i.p 0 1023 i.part x → x.told ≡ true
    → (h : Header) × (value_of i.p h < 1024)
low_port_at i x k e =
    let below = value_told i.part i.p 0 1023 x k e (high_of x.body) (holds_high x.body (valid_if_within x.body i.part k.body.within)) in
    let le = below.1 in
    (high_of x.body, omega arith)

second_of : {X : Type 0} (a b x : X) → Contains (a ∷ b ∷ []) x → (a ≡ x → ⊥) → Contains (b ∷ []) x
second_of a b x (zero, lt, e) other = absurd (other e)
second_of a b x (suc k, lt, e) other = (k, omega arith, e)

-- no side ends before 0
pub ends_past_zero : (f : Field) (n : ℕ) (body part : Box5) → EndsAtEdges (range_edges f 0 n) body part → EndsAtEdges ((f, n + 1) ∷ []) body part
ends_past_zero f n body part k = record { ends = λ s. ⊎_elim inl (λ g. inr (g.0, past s g.0 g.1)) (k.ends s) }
  where
    past : (s : Side) (add : ℕ) → Contains (range_edges f 0 n) (Of s add, (side_of body s).1 + 1 + add)
        → Contains {X = Field × ℕ} ((f, n + 1) ∷ []) (Of s add, (side_of body s).1 + 1 + add)
    past s add g = second_of {X = Field × ℕ} (f, 0) (f, n + 1) _ g (λ e. let z = ap (λ (x : Field × ℕ). x.1) e in absurd (omega arith))

-- what is shifted still fits
raised_fits : (b : Box5) (f : Field) → HasOffset f → greatest_of f b ≤ 1023 → FitsSide b P (raised f)
raised_fits b (Fixed n) o le = record { offset = tt; fits = omega arith }
raised_fits b (Of s add) o le = record { offset = inr (⊎_elim (λ e. omega arith) (λ e. absurd (omega arith)) o); fits = omega arith }

-- how a field becomes another, where it is told whether it is below 1,024
abbrev pub IsShifted : Field → Bool → Field → Type 0
IsShifted f told g = ((told ≡ true) × (g ≡ raised f)) ⊎ (g ≡ f)

pub valid_shifted : (i : Image) (x : Part Bool) (g : Field) → IsValidImage i → TellsRange i.p 0 1023 i.part x → IsShifted i.p x.told g
    → IsValidImage (record i { part = x.body; p = g })
valid_shifted i x g v k shifted =
    valid_if_fit (record i { part = x.body; p = g }) (valid_if_within x.body i.part k.body.within)
    (over Proto i.proto (fits_side i v Proto)) (over Src i.src (fits_side i v Src)) (over Dst i.dst (fits_side i v Dst))
    (⊎_elim
    (λ e. subst (FitsSide x.body P) (sym e.1) (raised_fits x.body i.p (v.offset P) (greatest_told i.part i.p 0 1023 x k e.0)))
    (λ e. subst (FitsSide x.body P) (sym e) (over P i.p (fits_side i v P)))
    shifted)
    (over Q i.q (fits_side i v Q))
  where
    over : (s : Side) (f : Field) → FitsSide i.part s f → FitsSide x.body s f
    over s f fit = fits_within x.body i.part s f k.body.within fit

pub open_shifted : (addresses : List ℕ) (i : Image) (x : Part Bool) (g : Field) → TellsRange i.p 0 1023 i.part x → IsShifted i.p x.told g
    → IsImageOfOpen addresses i → IsImageOfOpen addresses (record i { part = x.body; p = g })
open_shifted addresses i x g k shifted o = record {
  proto = o.proto;
  src = o.src;
  dst = o.dst;
  p = ⊎_elim (λ e. port e.0 e.1) (λ e. ⊎_elim (λ f. inl (e ∙ f)) (λ f. inr (e ∙ f)) o.p) shifted;
  q = o.q;
}
  where
    port : x.told ≡ true → g ≡ raised i.p → IsPort P g
    port t e = ⊎_elim
        (λ f. inr (e ∙ ap raised f))
        (λ f. let le = subst (λ (u : Field). greatest_of u x.body ≤ 1023) f (greatest_told i.part i.p 0 1023 x k t) in
        absurd (omega arith))
        o.p

-- ---- replies

-- the image of an exchange is valid over a body
pub valid_exchanged : (i : Image) (body : Box5) → IsValidImage i → IsWithin body i.part → IsValidImage (exchanged_image i body)
valid_exchanged i body v w =
    valid_if_fit (exchanged_image i body) (valid_if_within body i.part w)
    (over Proto i.proto (fits_side i v Proto))
    (as_src i.dst (over Dst i.dst (fits_side i v Dst)))
    (as_dst i.src (over Src i.src (fits_side i v Src)))
    (as_p i.q (over Q i.q (fits_side i v Q)))
    (as_q i.p (over P i.p (fits_side i v P)))
  where
    over : (s : Side) (f : Field) → FitsSide i.part s f → FitsSide body s f
    over s f fit = fits_within body i.part s f w fit

    as_src : (f : Field) → FitsSide body Dst f → FitsSide body Src f
    as_src f fit = record { offset = fit.offset; fits = fit.fits }

    as_dst : (f : Field) → FitsSide body Src f → FitsSide body Dst f
    as_dst f fit = record { offset = fit.offset; fits = fit.fits }

    as_p : (f : Field) → FitsSide body Q f → FitsSide body P f
    as_p f fit = record { offset = fit.offset; fits = fit.fits }

    as_q : (f : Field) → FitsSide body P f → FitsSide body Q f
    as_q f fit = record { offset = fit.offset; fits = fit.fits }

-- and so is that of an echo reply
pub valid_echo : (i : Image) (body : Box5) → IsValidImage i → IsWithin body i.part → IsValidImage (echo_image i body)
valid_echo i body v w =
    valid_if_fit (echo_image i body) (valid_if_within body i.part w)
    (over Proto i.proto (fits_side i v Proto))
    (as_src i.dst (over Dst i.dst (fits_side i v Dst)))
    (as_dst i.src (over Src i.src (fits_side i v Src)))
    (over P i.p (fits_side i v P))
    (fixed_fits body Q 0 (omega arith))
  where
    over : (s : Side) (f : Field) → FitsSide i.part s f → FitsSide body s f
    over s f fit = fits_within body i.part s f w fit

    as_src : (f : Field) → FitsSide body Dst f → FitsSide body Src f
    as_src f fit = record { offset = fit.offset; fits = fit.fits }

    as_dst : (f : Field) → FitsSide body Src f → FitsSide body Dst f
    as_dst f fit = record { offset = fit.offset; fits = fit.fits }

-- a body whose headers aren't ICMP has none that is
no_icmp : (body : Box5) → IsValid body → ((h : Header) → holds h body ≡ true → false ≡ in_range (1, 1) (h.proto + 0)) → in_range body.proto 1 ≡ false
no_icmp body v none = decided (in_range body.proto 1) refl
  where
    held : in_range body.proto 1 ≡ true → holds (record (low_of body) { proto = 1 }) body ≡ true
    held e = holds_from_in (record (low_of body) { proto = 1 }) body (record {
      proto = (grind (arith, nat_tests), grind (arith, nat_tests));
      src = begins v.src;
      dst = begins v.dst;
      p = begins v.p;
      q = begins v.q;
    })
      where
        begins : {x y : ℕ} → x ≤ y → (x ≤ x) × (x ≤ y)
        begins h = (omega arith, h)

    decided : (t : Bool) → in_range body.proto 1 ≡ t → t ≡ false
    decided true e = absurd (let k = none (record (low_of body) { proto = 1 }) (held e) in grind (arith, nat_tests))
    decided false e = refl

pub answer_exchanged : (addresses : List ℕ) (i : Image) (x : Part Bool) → TellsRange i.proto 1 1 i.part x → x.told ≡ false
    → IsImageOfOpen addresses i → IsImageOfAnswer addresses (exchanged_image i x.body)
answer_exchanged addresses i x k e o = inr (record {
  other = no_icmp x.body (valid_if_within x.body i.part k.body.within)
      (λ h t. subst (λ (f : Field). false ≡ in_range (1, 1) (value_of f h)) o.proto (sym e ∙ k.told h t));
  proto = o.proto;
  src = o.dst;
  dst = o.src;
  p = o.q;
  q = o.p;
})

-- a body whose headers are all ICMP
only_icmp : (body middle : Box5) (f : Field) → f ≡ Of Proto 0 → IsWithin body middle → IsValid middle
    → ((h : Header) → holds h middle ≡ true → (1 ≤ value_of f h) × (value_of f h ≤ 1)) → body.proto ≡ (1, 1)
only_icmp body middle f e w v all =
    let low = subst (λ (g : Field). 1 ≤ value_of g (low_of middle)) e (all (low_of middle) (holds_low middle v)).0 in
    let high = subst (λ (g : Field). value_of g (high_of middle) ≤ 1) e (all (high_of middle) (holds_high middle v)).1 in
    let begins = w.proto.begins in
    let valid = w.proto.valid in
    let ends = w.proto.ends in
    let first : body.proto.0 ≡ 1 = omega arith in
    let last : body.proto.1 ≡ 1 = omega arith in
    ap (λ (n : ℕ). (n, body.proto.1)) first ∙ ap (λ (n : ℕ). (1, n)) last

pub answer_echo : (addresses : List ℕ) (i : Image) (x : Part Bool) (body : Box5) → TellsRange i.proto 1 1 i.part x → x.told ≡ true
    → IsWithin body x.body
    → IsImageOfOpen addresses i → IsImageOfAnswer addresses (echo_image i body)
answer_echo addresses i x body k e w o = inl (record {
  icmp = only_icmp body x.body i.proto o.proto w (valid_if_within x.body i.part k.body.within) (value_told i.part i.proto 1 1 x k e);
  proto = o.proto;
  src = o.dst;
  dst = o.src;
  p = o.p;
  q = refl;
})

pub if_some : (o : Option Image) (j k : Image) (A : Image → Type 0) → o ≡ Some j → j ≡ k → A k → IfSome o A
if_some o j k A e f a = subst (λ (t : Option Image). IfSome t A) (sym e) (subst A (sym f) a)

pub if_none : (o : Option Image) (A : Image → Type 0) → o ≡ None → IfSome o A
if_none o A e = subst (λ (t : Option Image). IfSome t A) (sym e) tt
