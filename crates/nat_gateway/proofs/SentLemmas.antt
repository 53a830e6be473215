-- Opens and answers on images at a NAT gateway.
use Rattle.std.proofs.Common.{Bool, Contains, List, None, Option, Some, [], ap, arith, cond, count_by, false, find, if◌then◌else◌, option_and_then, refl, subst, suc, sym, true, zero, ℕ, ⊎_elim, ◌&&◌, ◌+◌, ◌-◌, ◌<◌, ◌==◌, ◌∙◌, ◌∷◌, ◌≡◌}
use Rattle.std.specs.List.{list_any}
use Rattle.vpc_base.proofs.Lemmas.{All-cons, All-nil, eq-eqb, nat_tests, or_parts}
use Rattle.vpc_base.specs.Terms.{CutLists, reply_of}
use Rattle.vpc_laws.specs.Types.{Box5, Header, NatNo}
use Rattle.vpc_model.specs.Terms.{Translation, first_free, first_port, fixed_cuts, free_port, inward, is_header, is_taken, is_translatable, same_header}
use Rattle.header_boxes.specs.Terms.{IsAligned, holds, in_range}
use Rattle.header_boxes.proofs.Lemmas.{aligned_through, holds_whole}
use Rattle.box_images.specs.Terms.{Answers, AnswersImage, AreCutInside, EndsAtEdges, IsBody, IsCutInside, IsPort, IsValidImage, header_at, range_edges, shift_edges, shifted}
use Rattle.box_images.specs.declared.fields.Field.{Field}
use Rattle.box_images.specs.declared.fields.Field.TheVariants.{Fixed, Of}
use Rattle.box_images.specs.declared.fields.Side.TheVariants.{P, Proto}
use Rattle.box_images.specs.declared.images.Image.{Image}
use Rattle.box_images.specs.declared.images.Part.{Part}
use Rattle.box_images.proofs.Lemmas.{bodies_are_aligned, body_through}
use Rattle.conn_tracking.specs.OnImages.{GivesReply, TellsReply}
use Rattle.conn_tracking.proofs.ReplyCuts.{cut_inside, range_inside}
use Rattle.cut_laws.specs.Dividing.{Divide, DivideAddresses}
use Rattle.nat_gateway.specs.OnImages.{FirstOpenIsSent, GivesInward, GivesSent, HasNone, from_gateway, sent_first, translation_at}

-- ---- a list without a translation of the gateway

find-none : {X : Type 0} (p q : X → Bool) (xs : List X) → list_any q xs ≡ false → find (λ x. q x && p x) xs ≡ None
find-none p q [] none = refl
find-none p q (x ∷ xs) none = let each = or_parts (q x) (list_any q xs) none in rw each.0 (find-none p q xs each.1)

count_by-none : {X : Type 0} (p q : X → Bool) (xs : List X) → list_any q xs ≡ false → count_by (λ x. q x && p x) xs ≡ 0
count_by-none p q [] none = refl
count_by-none p q (x ∷ xs) none = let each = or_parts (q x) (list_any q xs) none in rw each.0 (count_by-none p q xs each.1)

-- no port is taken by such a list
taken-none : (ts : List Translation) (n : NatNo) (h : Header) → HasNone n ts → (port : ℕ) → is_taken ts n h port ≡ false
taken-none [] n h none port = refl
taken-none (t ∷ ts) n h none port =
    let each = or_parts (t.nat.0 == n.0) (list_any (λ (s : Translation). s.nat.0 == n.0) ts) none in rw each.0 (taken-none ts n h each.1 port)

-- so that the first one is free
first_free-first : (taken : ℕ → Bool) (n port : ℕ) → taken port ≡ false → 0 < n → first_free taken n port ≡ Some port
first_free-first taken zero port free some = absurd (omega arith)
first_free-first taken (suc n) port free some = rw free refl

free_port-first : (taken : ℕ → Bool) (port : ℕ) → taken port ≡ false → port < 65536 → free_port taken port ≡ port
free_port-first taken port free below = rw (first_free-first taken (65536 - port) port free (omega arith)) refl

first_port-below : (p : ℕ) → p < 65536 → first_port p < 65536
first_port-below p below = grind (arith, nat_tests)

pub first_open_is_sent : FirstOpenIsSent
first_open_is_sent ts n own h fits none = record {
  unknown = find-none (λ t. same_header t.before h) (λ t. t.nat.0 == n.0) ts none;
  room = let few = count_by-none (λ t. (t.after.proto == h.proto) && ((t.after.dst == h.dst) && (t.after.q == h.q))) (λ t. t.nat.0 == n.0) ts none in rw few refl;
  sent = ap (λ (p : ℕ). record h { src = own; p = p })
      (free_port-first (is_taken ts n h) (first_port h.p) (taken-none ts n h none (first_port h.p)) (first_port-below h.p fits.p));
}

-- ---- protocols

in_range-one : (n x : ℕ) → in_range (n, n) x ≡ (x == n)
in_range-one n x = grind (arith, nat_tests)

-- a protocol that every network cuts out
pub tells_protocol : (i : Image) (n : ℕ) (x : Part Bool) → i.proto ≡ Of Proto 0 → Contains fixed_cuts.proto n → Contains fixed_cuts.proto (n + 1)
    → ((h : Header) → holds h x.body ≡ true → x.told ≡ in_range (n, n) (let g = header_at i h in g.proto))
    → IsBody x.body i.part → EndsAtEdges (range_edges i.proto n n) x.body i.part
    → Answers (Divide fixed_cuts) (λ h. let g = header_at i h in g.proto == n) i.part x
tells_protocol i n x e first past told body ends = record {
  told = λ h t. told h t ∙ in_range-one n (let g = header_at i h in g.proto);
  body = body;
  aligned = λ cuts d. bodies_are_aligned cuts (range_edges i.proto n n) x.body i.part body ends
      (range_inside cuts i.part i.proto n n
      (cut_inside cuts i.part i.proto Proto n e (d.proto n first))
      (cut_inside cuts i.part i.proto Proto (n + 1) e (d.proto (n + 1) past)));
}

-- ---- outward

-- an image for a body of an aligned body of the part is one for a body of the part
images_follow : (D : CutLists → Type 0) (answer : Header → Option Header) (middle part : Box5) (x : Part (Option Image))
    → IsBody middle part → ((cuts : CutLists) → D cuts → IsAligned cuts middle part) → AnswersImage D answer middle x → AnswersImage D answer part x
images_follow D answer middle part x b a k = record {
  told = k.told;
  body = body_through x.body middle part k.body b;
  aligned = λ cuts e. aligned_through cuts x.body middle part (k.aligned cuts e) (a cuts e);
  valid = k.valid;
  over = k.over;
}

shift_inside : (cuts : CutLists) (part : Box5) (i : Image) → IsPort P i.p → Divide fixed_cuts cuts → AreCutInside cuts part (shift_edges i)
shift_inside cuts part i port d =
    All-cons (λ (e : Field × ℕ). IsCutInside cuts part e.0 e.1) (i.p, 1024) []
    (⊎_elim
    (λ e. cut_inside cuts part i.p P 1024 e (d.p 1024 (0, omega arith, refl)))
    (λ e. subst (λ (f : Field). IsCutInside cuts part f 1024) (sym e) (λ x k some le. absurd (omega arith)))
    port)
    (All-nil (λ (e : Field × ℕ). IsCutInside cuts part e.0 e.1))

-- what isn't translated becomes nothing
pub gives_nothing : (own : ℕ) (i : Image) (x : Part Bool) → Answers (Divide fixed_cuts) (λ h. let g = header_at i h in is_translatable g.proto) i.part x
    → x.told ≡ false → GivesSent own i (record { body = x.body; told = None })
gives_nothing own i x k e = record {
  told = λ h t. sym (ap (λ (b : Bool). if b then Some (from_gateway own (header_at i h)) else None) (sym (k.told h t) ∙ e));
  body = k.body;
  aligned = k.aligned;
  valid = tt;
  over = tt;
}

-- and what is, the header with the first port
pub gives_shifted : (own : ℕ) (i over sent : Image) (x : Part Bool) (shift : Part Image)
    → Answers (Divide fixed_cuts) (λ h. let g = header_at i h in is_translatable g.proto) i.part x → x.told ≡ true
    → over ≡ record i { part = x.body } → IsPort P i.p
    → ((h : Header) → holds h shift.body ≡ true → header_at shift.told h ≡ shifted (header_at over h))
    → IsBody shift.body over.part → EndsAtEdges (shift_edges over) shift.body over.part → (let j = shift.told in j.part) ≡ shift.body
    → sent ≡ (let j = shift.told in record j { src = Fixed own }) → IsValidImage sent
    → GivesSent own i (record { body = shift.body; told = Some sent })
gives_shifted own i over sent x shift k e is port told body ends at made valid =
    let within = subst (λ (w : Image). IsBody shift.body w.part) is body in
    let stops = subst (λ (w : Image). EndsAtEdges (shift_edges w) shift.body w.part) is ends in
    images_follow (Divide fixed_cuts) (λ h. sent_first own (header_at i h)) x.body i.part (record { body = shift.body; told = Some sent }) k.body k.aligned
    (record {
      told = λ h t.
          let first = told h t ∙ ap (λ (w : Image). shifted (header_at w h)) is in
          let made_at : header_at sent h ≡ from_gateway own (header_at i h) =
          ap (λ (w : Image). header_at w h) made ∙ ap (λ (g : Header). record g { src = own }) first in
          let yea = sym (k.told h (holds_whole h shift.body x.body within.within t)) ∙ e in
          ap Some made_at ∙ sym (ap (λ (b : Bool). if b then Some (from_gateway own (header_at i h)) else None) yea);
      body = within;
      aligned = λ cuts d. bodies_are_aligned cuts (shift_edges i) shift.body x.body within stops (shift_inside cuts x.body i port d);
      valid = valid;
      over = ap (λ (w : Image). w.part) made ∙ at;
    })

-- ---- inward

-- a gateway with one translation gives back what answers it
inward-one : (n : NatNo) (before after : Image) (h g : Header)
    → inward (translation_at n before after h ∷ []) n g ≡ (if is_header g (reply_of (header_at after h)) then reply_of (header_at before h) else None)
inward-one n before after h g = rw (eq-eqb n.0 n.0 refl) (by (is_header g (reply_of (header_at after h))))
  where
    by : (b : Bool) → option_and_then (λ (t : Translation). reply_of t.before) (cond b (Some (translation_at n before after h)) None)
        ≡ (if b then reply_of (header_at before h) else None)
    by true = refl
    by false = refl

pub gives_back_nothing : (addresses : List ℕ) (n : NatNo) (i before after : Image) (x : Part Bool) → TellsReply addresses i after x → x.told ≡ false
    → GivesInward addresses n before after i (record { body = x.body; told = None })
gives_back_nothing addresses n i before after x k e = record {
  told = λ h t. sym (inward-one n before after h (header_at i h)
      ∙ ap (λ (b : Bool). if b then reply_of (header_at before h) else None) (sym (k.told h t) ∙ e));
  body = k.body;
  aligned = k.aligned;
  valid = tt;
  over = tt;
}

pub gives_back_reply : (addresses : List ℕ) (n : NatNo) (i before after over : Image) (x : Part Bool) (y : Part (Option Image)) → TellsReply addresses i after x
    → x.told ≡ true → over ≡ record before { part = x.body } → GivesReply addresses over y → GivesInward addresses n before after i y
gives_back_reply addresses n i before after over x y k e is reply =
    let gives = subst (λ (w : Image). GivesReply addresses w y) is reply in
    images_follow (DivideAddresses addresses) (λ h. inward (translation_at n before after h ∷ []) n (header_at i h)) x.body i.part y k.body k.aligned
    (record {
      told = λ h t. gives.told h t
          ∙ sym (inward-one n before after h (header_at i h)
          ∙ ap (λ (b : Bool). if b then reply_of (header_at before h) else None) (sym (k.told h (holds_whole h y.body x.body gives.body.within t)) ∙ e));
      body = gives.body;
      aligned = gives.aligned;
      valid = gives.valid;
      over = gives.over;
    })
