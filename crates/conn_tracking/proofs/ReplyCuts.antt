-- The cuts that replies and their comparison need.
use Rattle.std.proofs.Common.{◌≡◌, ◌≤◌, ◌+◌, ◌++◌, ◌∷◌, [], ℕ, suc, zero, List, arith, ap, flat_map, nat_le, refl, subst, sym, ◌∙◌, ⊎_elim}
use Rattle.std.specs.List.{Contains}
use Rattle.std.proofs.lemmas.Bool.{le-leb}
use Rattle.std.proofs.lemmas.List.Elements.{All-append, All-cons, All-nil, Contains-append_left, Contains-append_right}
use Rattle.vpc_base.proofs.Members.{Contains-filter}
use Rattle.vpc_base.specs.Cuts.{CutLists}
use Rattle.header_boxes.specs.declared.boxes.Box5.{Box5}
use Rattle.vpc_model.specs.Cuts.{address_cuts, fixed_cuts}
use Rattle.box_images.specs.Bodies.{AreCutInside, IsCutInside, cuts_on, meeting_edges, range_edges, reply_edges, same_edges}
use Rattle.box_images.specs.Fields.{greatest_of, side_of}
use Rattle.box_images.specs.Images.{IsAddress, IsImageOfAnswer, IsImageOfEchoReply, IsImageOfOpen, IsImageOfReturn, IsPort, IsValidImage}
use Rattle.box_images.specs.declared.fields.Field.{Field}
use Rattle.box_images.specs.declared.fields.Field.TheVariants.{Fixed, Of}
use Rattle.box_images.specs.declared.fields.Side.{Side}
use Rattle.box_images.specs.declared.fields.Side.TheVariants.{Proto, Src, Dst, P, Q}
use Rattle.box_images.specs.declared.images.Image.{Image}
use Rattle.box_images.proofs.LawLemmas.{no_two_kinds, port_reads}
use Rattle.cut_laws.specs.Dividing.{DivideAddresses}

-- ---- the cuts around addresses

Contains-cuts : (addresses : List ℕ) (a c : ℕ) → Contains addresses a → Contains (address_cuts a) c → Contains (flat_map address_cuts addresses) c
Contains-cuts [] a c (k, below, e) m = absurd (omega arith)
Contains-cuts (b ∷ addresses) a c (zero, below, e) m =
    Contains-append_left (address_cuts b) (flat_map address_cuts addresses) c (subst (λ (n : ℕ). Contains (address_cuts n) c) (sym e) m)
Contains-cuts (b ∷ addresses) a c (suc k, below, e) m =
    Contains-append_right (address_cuts b) (flat_map address_cuts addresses) c (Contains-cuts addresses a c (k, omega arith, e) m)

-- an address, and the one past it, are cuts
address_cut : (addresses : List ℕ) (cuts : CutLists) (a c : ℕ) → DivideAddresses addresses cuts → Contains addresses a → Contains (address_cuts a) c
    → c ≤ 4294967295 → Contains cuts.addr c
address_cut addresses cuts a c d listed around le =
    d.addr c (Contains-filter (λ (x : ℕ). nat_le x 4294967295) (fixed_cuts.addr ++ flat_map address_cuts addresses) c
    (Contains-append_right fixed_cuts.addr (flat_map address_cuts addresses) c (Contains-cuts addresses a c listed around)) (le-leb c 4294967295 le))

-- ---- edges at cuts

nothing_inside : (cuts : CutLists) (part : Box5) → AreCutInside cuts part []
nothing_inside cuts part = All-nil (λ (e : Field × ℕ). IsCutInside cuts part e.0 e.1)

pub range_inside : (cuts : CutLists) (part : Box5) (f : Field) (lo hi : ℕ) → IsCutInside cuts part f lo → IsCutInside cuts part f (hi + 1)
    → AreCutInside cuts part (range_edges f lo hi)
range_inside cuts part f lo hi first past =
    All-cons (λ (e : Field × ℕ). IsCutInside cuts part e.0 e.1) (f, lo) ((f, hi + 1) ∷ []) first
    (All-cons (λ (e : Field × ℕ). IsCutInside cuts part e.0 e.1) (f, hi + 1) [] past (nothing_inside cuts part))

both_inside : (cuts : CutLists) (part : Box5) (few more : List (Field × ℕ)) → AreCutInside cuts part few → AreCutInside cuts part more
    → AreCutInside cuts part (few ++ more)
both_inside cuts part few more k l = All-append (λ (e : Field × ℕ). IsCutInside cuts part e.0 e.1) few more k l

-- a field that reads a side comes to a cut of it there
pub cut_inside : (cuts : CutLists) (part : Box5) (f : Field) (s : Side) (v : ℕ) → f ≡ Of s 0 → Contains (cuts_on cuts s) v → IsCutInside cuts part f v
cut_inside cuts part f s v e c =
    subst (λ (g : Field). IsCutInside cuts part g v) (sym e) (λ x k some le. subst (Contains (cuts_on cuts s)) (omega arith) c)

pub reply_inside : (addresses : List ℕ) (cuts : CutLists) (part : Box5) (i : Image) → IsImageOfOpen addresses i → DivideAddresses addresses cuts
    → AreCutInside cuts part (reply_edges i)
reply_inside addresses cuts part i o d =
    both_inside cuts part (range_edges i.proto 1 1) (range_edges i.q 2048 2048)
    (range_inside cuts part i.proto 1 1
    (cut_inside cuts part i.proto Proto 1 o.proto (d.proto 1 (0, omega arith, refl)))
    (cut_inside cuts part i.proto Proto 2 o.proto (d.proto 2 (1, omega arith, refl))))
    (range_inside cuts part i.q 2048 2048
    (cut_inside cuts part i.q Q 2048 o.q (d.q 2048 (0, omega arith, refl)))
    (cut_inside cuts part i.q Q 2049 o.q (d.q 2049 (1, omega arith, refl))))

-- ---- where headers become the same

-- a field that reads a side of addresses comes to a listed address, and past it, at cuts
read_inside : (addresses : List ℕ) (cuts : CutLists) (part : Box5) (s t : Side) (add a v : ℕ) → cuts_on cuts s ≡ cuts.addr → t ≡ s → add ≡ 0
    → (side_of part t).1 + add ≤ 4294967295 → DivideAddresses addresses cuts → Contains addresses a → Contains (address_cuts a) v
    → IsCutInside cuts part (Of t add) v
read_inside addresses cuts part s t add a v on same nothing fits d listed around x k some le =
    let here : v ≡ x = omega arith in
    subst (λ (cs : List ℕ). Contains cs x) (sym (ap (cuts_on cuts) same ∙ on))
    (address_cut addresses cuts a x d listed (subst (Contains (address_cuts a)) here around) (omega arith))

addresses_inside : (addresses : List ℕ) (cuts : CutLists) (part : Box5) (s : Side) (f g : Field) → cuts_on cuts s ≡ cuts.addr
    → IsAddress addresses s f → IsAddress addresses s g → greatest_of f part ≤ 4294967295 → greatest_of g part ≤ 4294967295
    → DivideAddresses addresses cuts → AreCutInside cuts part (meeting_edges f g)
addresses_inside addresses cuts part s (Fixed a) (Fixed b) on k l fits fit d = nothing_inside cuts part
addresses_inside addresses cuts part s (Of t add) (Of u more) on k l fits fit d = nothing_inside cuts part
addresses_inside addresses cuts part s (Of t add) (Fixed a) on k l fits fit d =
    range_inside cuts part (Of t add) a a
    (read_inside addresses cuts part s t add a a on k.0 k.1 fits d l (0, omega arith, refl))
    (read_inside addresses cuts part s t add a (a + 1) on k.0 k.1 fits d l (1, omega arith, refl))
addresses_inside addresses cuts part s (Fixed a) (Of t add) on k l fits fit d =
    range_inside cuts part (Of t add) a a
    (read_inside addresses cuts part s t add a a on l.0 l.1 fit d k (0, omega arith, refl))
    (read_inside addresses cuts part s t add a (a + 1) on l.0 l.1 fit d k (1, omega arith, refl))

-- fields that both read the request never meet a constant
reads_inside : (cuts : CutLists) (part : Box5) (s : Side) (f g : Field) → (add : ℕ) × (f ≡ Of s add) → (more : ℕ) × (g ≡ Of s more)
    → AreCutInside cuts part (meeting_edges f g)
reads_inside cuts part s f g k l =
    subst (λ (u : Field). AreCutInside cuts part (meeting_edges u g)) (sym k.1)
    (subst (λ (v : Field). AreCutInside cuts part (meeting_edges (Of s k.0) v)) (sym l.1) (nothing_inside cuts part))

constants_inside : (cuts : CutLists) (part : Box5) (f g : Field) (m n : ℕ) → f ≡ Fixed m → g ≡ Fixed n → AreCutInside cuts part (meeting_edges f g)
constants_inside cuts part f g m n k l =
    subst (λ (u : Field). AreCutInside cuts part (meeting_edges u g)) (sym k)
    (subst (λ (v : Field). AreCutInside cuts part (meeting_edges (Fixed m) v)) (sym l) (nothing_inside cuts part))

ports_inside : (cuts : CutLists) (part : Box5) (s : Side) (f g : Field) → IsPort s f → IsPort s g → AreCutInside cuts part (meeting_edges f g)
ports_inside cuts part s f g k l = reads_inside cuts part s f g (port_reads s f k) (port_reads s g l)

all_inside : (cuts : CutLists) (part : Box5) (i j : Image) → AreCutInside cuts part (meeting_edges i.proto j.proto)
    → AreCutInside cuts part (meeting_edges i.src j.src) → AreCutInside cuts part (meeting_edges i.dst j.dst)
    → AreCutInside cuts part (meeting_edges i.p j.p) → AreCutInside cuts part (meeting_edges i.q j.q)
    → AreCutInside cuts part (same_edges i j)
all_inside cuts part i j proto src dst p q =
    both_inside cuts part (meeting_edges i.proto j.proto) _ proto
    (both_inside cuts part (meeting_edges i.src j.src ++ meeting_edges i.dst j.dst) (meeting_edges i.p j.p ++ meeting_edges i.q j.q)
    (both_inside cuts part (meeting_edges i.src j.src) (meeting_edges i.dst j.dst) src dst)
    (both_inside cuts part (meeting_edges i.p j.p) (meeting_edges i.q j.q) p q))

-- the fields of two images fit over the one's part
pub record FitOver (i j : Image) : Type 0 where
  pub src : greatest_of i.src i.part ≤ 4294967295
  pub dst : greatest_of i.dst i.part ≤ 4294967295
  pub other_src : greatest_of j.src i.part ≤ 4294967295
  pub other_dst : greatest_of j.dst i.part ≤ 4294967295

fit_over : (i j : Image) → IsValidImage i → IsValidImage j → j.part ≡ i.part → FitOver i j
fit_over i j v w e = record {
  src = v.fits Src;
  dst = v.fits Dst;
  other_src = subst (λ (b : Box5). greatest_of j.src b ≤ 4294967295) e (w.fits Src);
  other_dst = subst (λ (b : Box5). greatest_of j.dst b ≤ 4294967295) e (w.fits Dst);
}

echoes_inside : (addresses : List ℕ) (cuts : CutLists) (i j : Image) → FitOver i j → IsImageOfEchoReply addresses i → IsImageOfEchoReply addresses j
    → DivideAddresses addresses cuts → AreCutInside cuts i.part (same_edges i j)
echoes_inside addresses cuts i j fit a b d =
    all_inside cuts i.part i j
    (reads_inside cuts i.part Proto i.proto j.proto (0, a.proto) (0, b.proto))
    (addresses_inside addresses cuts i.part Dst i.src j.src refl a.src b.src fit.src fit.other_src d)
    (addresses_inside addresses cuts i.part Src i.dst j.dst refl a.dst b.dst fit.dst fit.other_dst d)
    (ports_inside cuts i.part P i.p j.p a.p b.p)
    (constants_inside cuts i.part i.q j.q 0 0 a.q b.q)

returns_inside : (addresses : List ℕ) (cuts : CutLists) (i j : Image) → FitOver i j → IsImageOfReturn addresses i → IsImageOfReturn addresses j
    → DivideAddresses addresses cuts → AreCutInside cuts i.part (same_edges i j)
returns_inside addresses cuts i j fit a b d =
    all_inside cuts i.part i j
    (reads_inside cuts i.part Proto i.proto j.proto (0, a.proto) (0, b.proto))
    (addresses_inside addresses cuts i.part Dst i.src j.src refl a.src b.src fit.src fit.other_src d)
    (addresses_inside addresses cuts i.part Src i.dst j.dst refl a.dst b.dst fit.dst fit.other_dst d)
    (reads_inside cuts i.part Q i.p j.p (0, a.p) (0, b.p))
    (ports_inside cuts i.part P i.q j.q a.q b.q)

pub same_inside : (addresses : List ℕ) (cuts : CutLists) (i j : Image) → IsValidImage i → IsValidImage j → j.part ≡ i.part
    → IsImageOfAnswer addresses i → IsImageOfAnswer addresses j → DivideAddresses addresses cuts → AreCutInside cuts i.part (same_edges i j)
same_inside addresses cuts i j v w e a b d =
    let fit = fit_over i j v w e in
    ⊎_elim
    (λ k. ⊎_elim (λ l. echoes_inside addresses cuts i j fit k l d) (λ l. absurd (no_two_kinds i.part j.part (sym e) k.icmp l.other)) b)
    (λ k. ⊎_elim (λ l. absurd (no_two_kinds j.part i.part e l.icmp k.other)) (λ l. returns_inside addresses cuts i j fit k l d) b)
    a
