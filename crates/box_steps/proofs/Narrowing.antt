-- Moments over a body of their part: they stand for the same packets, and remember the same.
use Rattle.std.proofs.Common.{◌≡◌, ◌∙◌, ◌≤◌, ◌==◌, ◌&&◌, ◌||◌, ◌∷◌, [], All, Bool, List, ap, arith, false, get_or, inl, inr, length, map, refl, subst, sym, true, ℕ}
use Rattle.vpc_base.proofs.Lemmas.{All-map, false≢true, length-map, nat_tests}
use Rattle.vpc_base.specs.Dir.{same_dir}
use Rattle.vpc_base.specs.declared.headers.Label.TheVariants as labels
use Rattle.header_boxes.specs.Boxes.{IsRangeWithin, IsWithin, in_range}
use Rattle.box_images.proofs.ImageLemmas.{valid_over_body}
use Rattle.box_images.specs.Images.{IsValidImage, header_at}
use Rattle.box_images.specs.declared.images.Image.{Image}
use Rattle.conn_tracking.specs.OnImages.{connection_at, connections_at}
use Rattle.conn_tracking.specs.declared.on_images.ImageEntry.{ImageEntry}
use Rattle.vpc_laws.proofs.Lemmas.{IsPlain}
use Rattle.vpc_laws.specs.Terms.{Memory, connection, memory_at, nothing, translation}
use Rattle.vpc_laws.specs.Types.{Box5, Description, Dir, EniNo, Header, Label, NatNo, Place}
use Rattle.vpc_model.specs.Terms.{Connection, Moment, Translation, addresses_in, is_sound}
use Rattle.box_steps.specs.Terms.{AreApart, BoxMoment, CanRemember, ImageNat, IsBoxMoment, IsImageOf, IsNarrowed, IsOpenOver, IsTranslatedOver, RemembersMore, entry_over, has_conn, has_left, has_nat, image_over, moment_at, nat_over, remembers, translation_at, translations_at}

-- what is remembered is the same, over the body
pub record IsKept (body : Box5) (old new : BoxMoment) : Type 0 where
  pub conns : new.conns.items ≡ map (entry_over body) old.conns.items
  pub nats : new.nats.items ≡ map (nat_over body) old.nats.items

pub kept_if_narrowed : (body : Box5) (old new : BoxMoment) → IsNarrowed body old new → IsKept body old new
kept_if_narrowed body old new n = record { conns = n.conns; nats = n.nats }

-- ---- at one header of the request

pub connections_at-over : (h : Header) (body : Box5) (es : List ImageEntry) → connections_at h (map (entry_over body) es) ≡ connections_at h es
connections_at-over h body [] = refl
connections_at-over h body (e ∷ es) = ap (λ (cs : List Connection). connection_at h e ∷ cs) (connections_at-over h body es)

pub translations_at-over : (h : Header) (body : Box5) (ts : List ImageNat) → translations_at h (map (nat_over body) ts) ≡ translations_at h ts
translations_at-over h body [] = refl
translations_at-over h body (t ∷ ts) = ap (λ (xs : List Translation). translation_at h t ∷ xs) (translations_at-over h body ts)

pub connections_at-kept : (h : Header) (body : Box5) (old new : BoxMoment) → IsKept body old new → connections_at h new.conns.items ≡ connections_at h old.conns.items
connections_at-kept h body old new k = ap (connections_at h) k.conns ∙ connections_at-over h body old.conns.items

pub translations_at-kept : (h : Header) (body : Box5) (old new : BoxMoment) → IsKept body old new → translations_at h new.nats.items ≡ translations_at h old.nats.items
translations_at-kept h body old new k = ap (translations_at h) k.nats ∙ translations_at-over h body old.nats.items

pub moments-same : (p q : Place) (a b : Header) (c e : List Connection) (t u : List Translation) → p ≡ q → a ≡ b → c ≡ e → t ≡ u
    → (let m : Moment = record { place = p; header = a; conns = c; nats = t } in m) ≡ record { place = q; header = b; conns = e; nats = u }
moments-same p q a b c e t u is_p is_a is_c is_t = cc

-- the packets of the body
pub moment_at-narrowed : (h : Header) (body : Box5) (old new : BoxMoment) → IsNarrowed body old new → moment_at h new ≡ moment_at h old
moment_at-narrowed h body old new n =
    let kept = kept_if_narrowed body old new n in
    moments-same new.place old.place (header_at new.header h) (header_at old.header h) _ _ _ _ n.place (ap (λ (i : Image). header_at i h) n.header)
    (connections_at-kept h body old new kept) (translations_at-kept h body old new kept)

-- ---- kinds

icmp-within : (body part : ℕ × ℕ) → IsRangeWithin body part → part ≡ (1, 1) → body ≡ (1, 1)
icmp-within (x, y) part w is =
    let low : 1 ≤ x = subst (λ (r : ℕ × ℕ). r.0 ≤ x) is w.begins in
    let high : y ≤ 1 = subst (λ (r : ℕ × ℕ). y ≤ r.1) is w.ends in
    let valid : x ≤ y = w.valid in
    let first : x ≡ 1 = omega arith in
    let last : y ≡ 1 = omega arith in
    cc

outside-within : (body part : ℕ × ℕ) (n : ℕ) → IsRangeWithin body part → in_range part n ≡ false → in_range body n ≡ false
outside-within body part n w out = let begins = w.begins in let ends = w.ends in grind (arith, nat_tests)

pub kind-over : (label : Label) (addresses : List ℕ) (body : Box5) (i : Image) → IsWithin body i.part → IsImageOf label addresses i → IsImageOf label addresses (image_over body i)
kind-over labels.Opening addresses body i w k = record { proto = k.proto; src = k.src; dst = k.dst; p = k.p; q = k.q }
kind-over labels.Answer addresses body i w (inl k) =
    inl (record { icmp = icmp-within body.proto i.part.proto w.proto k.icmp; proto = k.proto; src = k.src; dst = k.dst; p = k.p; q = k.q })
kind-over labels.Answer addresses body i w (inr k) =
    inr (record { other = outside-within body.proto i.part.proto 1 w.proto k.other; proto = k.proto; src = k.src; dst = k.dst; p = k.p; q = k.q })

pub open-over : (addresses : List ℕ) (body part : Box5) (i : Image) → IsWithin body part → IsOpenOver addresses part i → IsOpenOver addresses body (image_over body i)
open-over addresses body part i w k =
    let inside : IsWithin body i.part = subst (IsWithin body) (sym k.over) w in
    record { over = refl; valid = valid_over_body i body inside k.valid; kind = kind-over labels.Opening addresses body i inside k.kind }

pub conns-over : (addresses : List ℕ) (body part : Box5) (es : List ImageEntry) → IsWithin body part → All (λ e. IsOpenOver addresses part e.header) es
    → All (λ e. IsOpenOver addresses body e.header) (map (entry_over body) es)
conns-over addresses body part es w all =
    All-map (λ (e : ImageEntry). IsOpenOver addresses body e.header) (entry_over body) es
    (λ k d within. let e = get_or es k d in open-over addresses body part e.header w (all k d within))

pub nats-over : (addresses : List ℕ) (body part : Box5) (ts : List ImageNat) → IsWithin body part → All (IsTranslatedOver addresses part) ts
    → All (IsTranslatedOver addresses body) (map (nat_over body) ts)
nats-over addresses body part ts w all =
    All-map (IsTranslatedOver addresses body) (nat_over body) ts
    (λ k d within.
    let t = get_or ts k d in
    let over = all k d within in
    record { origin = open-over addresses body part t.before w over.origin; sent = open-over addresses body part t.after w over.sent })

-- ---- what is remembered

pub has_conn-over : (body : Box5) (es : List ImageEntry) (i : EniNo) (dir : Dir) → has_conn (map (entry_over body) es) i dir ≡ has_conn es i dir
has_conn-over body [] i dir = refl
has_conn-over body (e ∷ es) i dir = ap (λ (b : Bool). ((e.eni.0 == i.0) && same_dir e.dir dir) || b) (has_conn-over body es i dir)

pub has_nat-over : (body : Box5) (ts : List ImageNat) (n : NatNo) → has_nat (map (nat_over body) ts) n ≡ has_nat ts n
has_nat-over body [] n = refl
has_nat-over body (t ∷ ts) n = ap (λ (b : Bool). (t.nat.0 == n.0) || b) (has_nat-over body ts n)

pub apart-over : (body : Box5) (ts : List ImageNat) → AreApart ts → AreApart (map (nat_over body) ts)
apart-over body [] k = tt
apart-over body (t ∷ ts) k = (has_nat-over body ts t.nat ∙ k.0, apart-over body ts k.1)

left-kept : (body : Box5) (old new : BoxMoment) (x : Memory) → IsKept body old new → has_left new x ≡ has_left old x
left-kept body old new (connection i dir) k = ap (λ (es : List ImageEntry). has_conn es i dir) k.conns ∙ has_conn-over body old.conns.items i dir
left-kept body old new (translation n) k = ap (λ (ts : List ImageNat). has_nat ts n) k.nats ∙ has_nat-over body old.nats.items n
left-kept body old new nothing k = refl

-- what is remembered stays the same
pub remembers-kept : (body : Box5) (old new : BoxMoment) (p : Place) → IsKept body old new → remembers new p ≡ remembers old p
remembers-kept body old new p k = left-kept body old new (memory_at p) k

-- nothing is remembered where nothing is left behind
pub nothing-left : (m : BoxMoment) (p : Place) → IsPlain p → remembers m p ≡ true → ⊥
nothing-left m p rest has = false≢true (sym (ap (has_left m) rest.memory) ∙ has)

pub conns-kept : (body : Box5) (old new : BoxMoment) → IsKept body old new → length new.conns.items ≡ length old.conns.items
conns-kept body old new k = ap (λ (es : List ImageEntry). length es) k.conns ∙ length-map old.conns.items (entry_over body)

pub nats-kept : (body : Box5) (old new : BoxMoment) → IsKept body old new → length new.nats.items ≡ length old.nats.items
nats-kept body old new k = ap (λ (ts : List ImageNat). length ts) k.nats ∙ length-map old.nats.items (nat_over body)

pub remembers_more-kept : (body : Box5) (old new : BoxMoment) → IsKept body old new → RemembersMore old new
remembers_more-kept body old new k = record {
  conns = let same = conns-kept body old new k in omega arith;
  nats = let same = nats-kept body old new k in omega arith;
  known = λ p has. inl (sym (remembers-kept body old new p k) ∙ has);
}

-- ---- moments

-- a moment at a sound place, with any header of the kind over the body
pub moment-kept : (d : Description) (label : Label) (body : Box5) (old new : BoxMoment) → IsBoxMoment d label old → IsWithin body old.header.part → IsKept body old new
    → is_sound d new.place ≡ true → new.header.part ≡ body → IsValidImage new.header → IsImageOf label (addresses_in d) new.header → IsBoxMoment d label new
moment-kept d label body old new k w kept sound over valid kind = record {
  sound = sound;
  valid = valid;
  kind = kind;
  conns = subst (λ (b : Box5). All (λ (e : ImageEntry). IsOpenOver (addresses_in d) b e.header) new.conns.items) (sym over)
      (subst (All (λ (e : ImageEntry). IsOpenOver (addresses_in d) body e.header)) (sym kept.conns) (conns-over (addresses_in d) body old.header.part old.conns.items w k.conns));
  nats = subst (λ (b : Box5). All (IsTranslatedOver (addresses_in d) b) new.nats.items) (sym over)
      (subst (All (IsTranslatedOver (addresses_in d) body)) (sym kept.nats) (nats-over (addresses_in d) body old.header.part old.nats.items w k.nats));
  apart = subst AreApart (sym kept.nats) (apart-over body old.nats.items k.apart);
}

-- a moment at a sound place, with the same header over the body
pub moment-over : (d : Description) (label : Label) (body : Box5) (old new : BoxMoment) → IsBoxMoment d label old → IsWithin body old.header.part → IsKept body old new
    → is_sound d new.place ≡ true → new.header ≡ image_over body old.header → IsBoxMoment d label new
moment-over d label body old new k w kept sound is =
    moment-kept d label body old new k w kept sound (ap (λ (i : Image). i.part) is)
    (subst IsValidImage (sym is) (valid_over_body old.header body w k.valid))
    (subst (IsImageOf label (addresses_in d)) (sym is) (kind-over label (addresses_in d) body old.header w k.kind))

-- those of the body are a moment too
pub moment-narrowed : (d : Description) (label : Label) (body : Box5) (old new : BoxMoment) → IsBoxMoment d label old → IsWithin body old.header.part
    → IsNarrowed body old new → IsBoxMoment d label new
moment-narrowed d label body old new k w n =
    moment-over d label body old new k w (kept_if_narrowed body old new n) (ap (is_sound d) n.place ∙ k.sound) n.header

-- with the same room
pub room-narrowed : (label : Label) (body : Box5) (old new : BoxMoment) → CanRemember label old → IsNarrowed body old new → CanRemember label new
room-narrowed labels.Opening body old new k n = let kept = kept_if_narrowed body old new n in record {
  conns = let same = conns-kept body old new kept in let room = k.conns in omega arith;
  nats = let same = nats-kept body old new kept in let room = k.nats in omega arith;
  fresh = ap (remembers new) n.place ∙ (remembers-kept body old new old.place kept ∙ k.fresh);
}
room-narrowed labels.Answer body old new k n = tt
