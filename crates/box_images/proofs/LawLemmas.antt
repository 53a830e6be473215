-- The laws of bodies and images.
use Rattle.std.proofs.Common.{Bool, Contains, List, [], ap, arith, false, inl, inr, refl, subst, sym, true, ℕ, ⊎_elim, ◌+◌, ◌<◌, ◌^◌, ◌||◌, ◌∙◌, ◌∷◌, ◌≡◌, ◌≤◌, ◌⊎◌}
use Rattle.vpc_base.proofs.Lemmas.{All-cons, All-contains, All-nil, cases_lt}
use Rattle.vpc_base.specs.Cuts.{CutLists}
use Rattle.vpc_base.specs.declared.headers.Header.{Header}
use Rattle.header_boxes.specs.Terms.{IsAligned, holds, in_range, low_of}
use Rattle.header_boxes.specs.declared.boxes.Box5.{Box5}
use Rattle.header_boxes.proofs.Lemmas.{aligned_by_low, aligned_through, holds_low, holds_whole}
use Rattle.box_images.specs.Terms.{AlignedBodiesCompose, Answers, AnswersCompare, AreComparable, AreCutInside, BodiesAreAligned, CanCompare, CutsAreInside, Edges, EndsCompose, Field, Image, ImagesFit, IsAddress, IsBody, IsCut, IsCutInside, IsEdge, IsImageOfEchoReply, IsImageOfReturn, IsPort, IsValidImage, NarrowedAreAligned, OpensCompare, Part, Side, cuts_on, field_of, greatest_of, greatest_on, range_edges, side_of, value_of}
use Rattle.box_images.specs.declared.fields.Field.TheVariants.{Fixed, Of}
use Rattle.box_images.specs.declared.fields.Side.TheVariants.{Proto, Src, Dst, P, Q}
use Rattle.box_images.proofs.BodyLemmas.{body_through, ends_through}
use Rattle.box_images.proofs.SideLemmas.{number_in_side, side_begins, side_within}

-- ---- values

-- no value over a box is above the one at the side's upper end
pub value_of-le-greatest_of : (f : Field) (b : Box5) (h : Header) → holds h b ≡ true → value_of f h ≤ greatest_of f b
value_of-le-greatest_of (Fixed n) b h t = omega arith
value_of-le-greatest_of (Of s add) b h t = let i = number_in_side h b t s in let below = i.1 in omega arith

-- each value of a valid image fits its field
pub value_fits : (i : Image) (h : Header) → IsValidImage i → holds h i.part ≡ true → (s : Side) → value_of (field_of i s) h ≤ greatest_on s
value_fits i h v t s = let below = value_of-le-greatest_of (field_of i s) i.part h t in let fits = v.fits s in omega arith

pub images_fit : ImagesFit
images_fit i h v t = record {
  proto = let k = value_fits i h v t Proto in omega arith;
  src = let k = value_fits i h v t Src in omega arith;
  dst = let k = value_fits i h v t Dst in omega arith;
  p = let k = value_fits i h v t P in omega arith;
  q = let k = value_fits i h v t Q in omega arith;
}

-- ---- alignment

pub ends_compose : EndsCompose
ends_compose = ends_through

-- an edge just past a lowered end lies inside the part
cut_past_end : (cuts : CutLists) (edges : Edges) (body part : Box5) → IsBody body part → AreCutInside cuts part edges
    → (s : Side) → (side_of body s).1 < (side_of part s).1 → IsEdge edges s ((side_of body s).1 + 1) → Contains (cuts_on cuts s) ((side_of body s).1 + 1)
cut_past_end cuts edges body part b cut s lt e =
    let begins = side_begins body part b.low s in
    let some = (side_within body part b.within s).valid in
    All-contains (λ (k : Field × ℕ). IsCutInside cuts part k.0 k.1) edges (Of s e.0, (side_of body s).1 + 1 + e.0) cut e.1
    ((side_of body s).1 + 1) refl (omega arith) (omega arith)

pub bodies_are_aligned : BodiesAreAligned
bodies_are_aligned cuts edges body part b e cut =
    aligned_by_low cuts body part b.low (record { proto = ends Proto; src = ends Src; dst = ends Dst; p = ends P; q = ends Q })
  where
    ends : (s : Side) → ((side_of body s).1 ≡ (side_of part s).1) ⊎ Contains (cuts_on cuts s) ((side_of body s).1 + 1)
    ends s = ⊎_elim inl
        (λ k. ⊎_elim
        (λ lt. inr (cut_past_end cuts edges body part b cut s lt k))
        (λ ge. let le = (side_within body part b.within s).ends in inl (omega arith))
        (cases_lt (side_of body s).1 (side_of part s).1))
        (e.ends s)

inside : (cuts : CutLists) (part : Box5) (greatest : ℕ) (f : Field) (v : ℕ) → greatest_of f part ≤ greatest → IsCut cuts greatest f v
    → IsCutInside cuts part f v
inside cuts part greatest (Fixed n) v fits c = tt
inside cuts part greatest (Of s add) v fits c = λ x e some le. c x e (omega arith) (omega arith)

pub cuts_are_inside : CutsAreInside
cuts_are_inside cuts i s v valid c = inside cuts i.part (greatest_on s) (field_of i s) v (valid.fits s) c

pub narrowed_are_aligned : NarrowedAreAligned
narrowed_are_aligned cuts i s lo hi body v b e first past =
    bodies_are_aligned cuts (range_edges (field_of i s) lo hi) body i.part b e
    (All-cons (λ (k : Field × ℕ). IsCutInside cuts i.part k.0 k.1) (field_of i s, lo) ((field_of i s, hi + 1) ∷ [])
    (cuts_are_inside cuts i s lo v first)
    (All-cons (λ (k : Field × ℕ). IsCutInside cuts i.part k.0 k.1) (field_of i s, hi + 1) []
    (cuts_are_inside cuts i s (hi + 1) v past)
    (All-nil (λ (k : Field × ℕ). IsCutInside cuts i.part k.0 k.1))))

pub aligned_bodies_compose : AlignedBodiesCompose
aligned_bodies_compose cuts body middle part b a c d = (body_through body middle part b c, aligned_through cuts body middle part a d)

-- an answer for a body of an aligned body of the part is one for a body of the part
pub answers_follow : {T : Type 0} (divide_enough : CutLists → Type 0) (answer : Header → T) (middle part : Box5) (x : Part T)
    → IsBody middle part → ((cuts : CutLists) → divide_enough cuts → IsAligned cuts middle part)
    → Answers divide_enough answer middle x → Answers divide_enough answer part x
answers_follow {T} enough answer middle part x b a k = record {
  told = k.told;
  body = body_through x.body middle part k.body b;
  aligned = λ cuts e. aligned_through cuts x.body middle part (k.aligned cuts e) (a cuts e);
}

-- where the first of two tests holds, one of them does
pub answers_first : (enough : CutLists → Type 0) (f g : Header → Bool) (part : Box5) (x : Part Bool) → x.told ≡ true
    → Answers enough f part x → Answers enough (λ h. f h || g h) part x
answers_first enough f g part x e k = record { told = λ h i. passes (f h) (g h) x.told e (k.told h i); body = k.body; aligned = k.aligned }
  where
    passes : (a b v : Bool) → v ≡ true → v ≡ a → v ≡ (a || b)
    passes true b v e f = e
    passes false b v e f = absurd (let g : false ≡ true = sym f ∙ e in cc)

-- where it doesn't, the second decides
pub answers_either : (enough : CutLists → Type 0) (f g : Header → Bool) (part : Box5) (x y : Part Bool) → x.told ≡ false
    → Answers enough f part x → Answers enough g x.body y → Answers enough (λ h. f h || g h) part y
answers_either enough f g part x y e k l =
    answers_follow enough (λ h. f h || g h) x.body part y k.body k.aligned
    (record {
      told = λ h i. decides (f h) (g h) x.told y.told e (k.told h (holds_whole h y.body x.body l.body.within i)) (l.told h i);
      body = l.body;
      aligned = l.aligned;
    })
  where
    decides : (a b v w : Bool) → v ≡ false → v ≡ a → w ≡ b → w ≡ (a || b)
    decides true b v w e f g = absurd (let h : true ≡ false = sym f ∙ e in cc)
    decides false b v w e f g = g

-- ---- comparable images

address_compares : (addresses : List ℕ) (s : Side) (f g : Field) → IsAddress addresses s f → IsAddress addresses s g → AreComparable f g
address_compares addresses s (Fixed a) (Fixed b) k l = tt
address_compares addresses s (Fixed a) (Of t more) k l = tt
address_compares addresses s (Of t add) (Fixed b) k l = tt
address_compares addresses s (Of t add) (Of u more) k l = k.0 ∙ sym l.0

-- fields that read one side, whatever they add
one_side_compares : (s : Side) (f g : Field) → (add : ℕ) × (f ≡ Of s add) → (more : ℕ) × (g ≡ Of s more) → AreComparable f g
one_side_compares s f g k l =
    subst (λ (u : Field). AreComparable u g) (sym k.1) (subst (λ (v : Field). AreComparable (Of s k.0) v) (sym l.1) refl)

pub port_reads : (s : Side) (f : Field) → IsPort s f → (add : ℕ) × (f ≡ Of s add)
port_reads s f k = ⊎_elim (λ e. (0, e)) (λ e. (1024, e)) k

port_compares : (s : Side) (f g : Field) → IsPort s f → IsPort s g → AreComparable f g
port_compares s f g k l = one_side_compares s f g (port_reads s f k) (port_reads s g l)

pub opens_compare : OpensCompare
opens_compare addresses i j e a b = record {
  part = e;
  proto = one_side_compares Proto i.proto j.proto (0, a.proto) (0, b.proto);
  src = address_compares addresses Src i.src j.src a.src b.src;
  dst = address_compares addresses Dst i.dst j.dst a.dst b.dst;
  p = port_compares P i.p j.p a.p b.p;
  q = one_side_compares Q i.q j.q (0, a.q) (0, b.q);
}

echo_replies_compare : (addresses : List ℕ) (i j : Image) → i.part ≡ j.part → IsImageOfEchoReply addresses i → IsImageOfEchoReply addresses j → CanCompare i j
echo_replies_compare addresses i j e a b = record {
  part = e;
  proto = one_side_compares Proto i.proto j.proto (0, a.proto) (0, b.proto);
  src = address_compares addresses Dst i.src j.src a.src b.src;
  dst = address_compares addresses Src i.dst j.dst a.dst b.dst;
  p = port_compares P i.p j.p a.p b.p;
  q = subst (λ (f : Field). AreComparable f j.q) (sym a.q) (subst (λ (g : Field). AreComparable (Fixed 0) g) (sym b.q) tt);
}

returns_compare : (addresses : List ℕ) (i j : Image) → i.part ≡ j.part → IsImageOfReturn addresses i → IsImageOfReturn addresses j → CanCompare i j
returns_compare addresses i j e a b = record {
  part = e;
  proto = one_side_compares Proto i.proto j.proto (0, a.proto) (0, b.proto);
  src = address_compares addresses Dst i.src j.src a.src b.src;
  dst = address_compares addresses Src i.dst j.dst a.dst b.dst;
  p = one_side_compares Q i.p j.p (0, a.p) (0, b.p);
  q = port_compares P i.q j.q a.q b.q;
}

-- a part doesn't have proto 1 alone and no header of proto 1
pub no_two_kinds : (part other : Box5) → part ≡ other → part.proto ≡ (1, 1) → in_range other.proto 1 ≡ false → ⊥
no_two_kinds part other e k l =
    let m : in_range (1, 1) 1 ≡ false = subst (λ (r : ℕ × ℕ). in_range r 1 ≡ false) (sym (ap (λ (b : Box5). b.proto) e) ∙ k) l in cc

pub answers_compare : AnswersCompare
answers_compare addresses i j e a b =
    ⊎_elim
    (λ k. ⊎_elim (λ l. echo_replies_compare addresses i j e k l) (λ l. absurd (no_two_kinds i.part j.part e k.icmp l.other)) b)
    (λ k. ⊎_elim (λ l. absurd (no_two_kinds j.part i.part (sym e) l.icmp k.other)) (λ l. returns_compare addresses i j e k l) b)
    a

-- ---- numbers of 32 bits

side_fits : (s : Side) → greatest_on s ≤ 4294967295
side_fits Proto = omega arith
side_fits Src = omega arith
side_fits Dst = omega arith
side_fits P = omega arith
side_fits Q = omega arith

-- at the low corner
pub least_fits : (i : Image) (s : Side) → IsValidImage i → value_of (field_of i s) (low_of i.part) < 2 ^ 32
least_fits i s valid =
    let value = value_fits i (low_of i.part) valid (holds_low i.part valid.part) s in
    let side = side_fits s in
    omega arith

-- and the greatest
pub greatest_fits : (i : Image) (s : Side) → IsValidImage i → greatest_of (field_of i s) i.part < 2 ^ 32
greatest_fits i s valid = let value = valid.fits s in let side = side_fits s in omega arith
