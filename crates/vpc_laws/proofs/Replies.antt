-- Answers at a NAT gateway.
use Rattle.std.proofs.Common.{◌≡◌, ◌≤◌, ◌<◌, ◌==◌, ◌&&◌, Bool, true, false, List, [], ◌∷◌, ◌++◌, Option, Some, None, refl, ◌∙◌, sym, ap, arith, inl, inr, option_and_then}
use Rattle.std.specs.List.{count_by, find, IsDistinct, Contains}
use Rattle.std.proofs.lemmas.Bool.{and_parts, and_from, eqb-true, eq-eqb, cases_Bool, both_ways, le-leb, lt-leb, true≢false}
use Rattle.std.proofs.lemmas.Option.{same_Some}
use Rattle.std.proofs.lemmas.Map.Keys.{IsDistinct-head, IsDistinct-tail}
use Rattle.vpc_base.specs.Header.{reply_of, echo_reply, exchanged}
use Rattle.vpc_base.specs.declared.headers.Label.TheVariants.{Opening}
use Rattle.vpc_base.proofs.Members.{AllByRecursion-at, Contains-cases}
use Rattle.vpc_model.specs.declared.places.Place.TheVariants.{NatOut}
use Rattle.vpc_model.specs.declared.stops.Stop.TheVariants.{NatFull}
use Rattle.vpc_laws.specs.Types.{Description, Header, NatNo}
use Rattle.vpc_laws.specs.Translations.{IsBook, collide}
use Rattle.vpc_model.specs.Appliances.{Appliances}
use Rattle.vpc_model.specs.Connections.{Connection, is_header, same_header}
use Rattle.vpc_model.specs.Lookup.{nat_at}
use Rattle.vpc_model.specs.Nat.{Translation, inward, is_translatable, new_translation, shares, translation_of}
use Rattle.vpc_model.specs.Step.{step_of}
use Rattle.vpc_model.specs.Step.Nat.{from_nat, own_address}
use Rattle.vpc_model.specs.Step.Words.{stop}
use Rattle.vpc_laws.proofs.Flow.{IsSame, same_header-fields}

-- ---- replies

-- what a reply tells of the header that it answers
data IsReply (a r : Header) : Type 0 where
  echo : a.proto ≡ 1 → a.q ≡ 2048 → r.proto ≡ a.proto → r.src ≡ a.dst → r.p ≡ a.p → IsReply a r
  other : a.proto == 1 ≡ false → r.proto ≡ a.proto → r.src ≡ a.dst → r.p ≡ a.q → r.q ≡ a.p → IsReply a r

reply_of-tells : (a r : Header) → reply_of a ≡ Some r → IsReply a r
reply_of-tells a r e =
    elim (cases_Bool (a.proto == 1)) [
      | inl icmp ↦ elim (cases_Bool (a.q == 2048)) [
        | inl asks ↦
            let same : echo_reply a ≡ r = same_Some _ _ (rw (icmp, asks) at e) in
            echo (eqb-true a.proto 1 icmp) (eqb-true a.q 2048 asks) (sym (ap (λ (h : Header). h.proto) same)) (sym (ap (λ (h : Header). h.src) same)) (sym (ap (λ (h : Header). h.p) same))
        | inr says ↦ let none = (rw (icmp, says) at e) in cc
      ]
      | inr not_icmp ↦
          let same : exchanged a ≡ r = same_Some _ _ (rw not_icmp at e) in
          other not_icmp (sym (ap (λ (h : Header). h.proto) same)) (sym (ap (λ (h : Header). h.src) same)) (sym (ap (λ (h : Header). h.p) same)) (sym (ap (λ (h : Header). h.q) same))
    ]

-- headers with one reply have one protocol, destination, p and q
record IsTwin (a b : Header) : Type 0 where
  pub proto : a.proto ≡ b.proto
  pub dst : a.dst ≡ b.dst
  pub p : a.p ≡ b.p
  pub q : a.q ≡ b.q

twins : (a b r k : Header) → IsReply a r → IsReply b k → IsSame r k → IsTwin a b
twins a b r k (echo pa qa pr sr xr) (echo pb qb pk sk xk) same =
    record { proto = sym pr ∙ same.proto ∙ pk; dst = sym sr ∙ same.src ∙ sk; p = sym xr ∙ same.p ∙ xk; q = qa ∙ sym qb }
twins a b r k (other pa pr sr xr yr) (other pb pk sk xk yk) same =
    record { proto = sym pr ∙ same.proto ∙ pk; dst = sym sr ∙ same.src ∙ sk; p = sym yr ∙ same.q ∙ yk; q = sym xr ∙ same.p ∙ xk }
twins a b r k (echo pa qa pr sr xr) (other pb pk sk xk yk) same =
    absurd (both_ways (b.proto == 1) pb (eq-eqb b.proto 1 (sym pk ∙ sym same.proto ∙ pr ∙ pa)))
twins a b r k (other pa pr sr xr yr) (echo pb qb pk sk xk) same =
    absurd (both_ways (a.proto == 1) pa (eq-eqb a.proto 1 (sym pr ∙ same.proto ∙ pk ∙ pb)))

pub same_header-refl : (h : Header) → same_header h h ≡ true
same_header-refl h =
    and_from (h.proto == h.proto) ((h.src == h.src) && ((h.dst == h.dst) && ((h.p == h.p) && (h.q == h.q)))) (eq-eqb h.proto h.proto refl)
    (and_from (h.src == h.src) ((h.dst == h.dst) && ((h.p == h.p) && (h.q == h.q))) (eq-eqb h.src h.src refl)
    (and_from (h.dst == h.dst) ((h.p == h.p) && (h.q == h.q)) (eq-eqb h.dst h.dst refl)
    (and_from (h.p == h.p) (h.q == h.q) (eq-eqb h.p h.p refl) (eq-eqb h.q h.q refl))))

-- ---- answers

abbrev is_answered : NatNo → Header → Translation → Bool
is_answered n h t = (t.nat.0 == n.0) && is_header h (reply_of t.after)

answers-own : (t : Translation) (r : Header) → reply_of t.after ≡ Some r → is_answered t.nat r t ≡ true
answers-own t r e = and_from (t.nat.0 == t.nat.0) (is_header r (reply_of t.after)) (eq-eqb t.nat.0 t.nat.0 refl) (rw e (same_header-refl r))

pub is_header-some : (h : Header) (o : Option Header) → is_header h o ≡ true → (k : Header) × ((o ≡ Some k) × (same_header k h ≡ true))
is_header-some h None e = absurd (true≢false (sym e))
is_header-some h (Some k) e = (k, (refl, e))

-- another translation that the answer would match collides with this one
answered-collide : (s t : Translation) (r : Header) → reply_of t.after ≡ Some r → is_answered t.nat r s ≡ true → collide s t ≡ true
answered-collide s t r e hit =
    let parts = and_parts (s.nat.0 == t.nat.0) (is_header r (reply_of s.after)) hit in
    let found = is_header-some r (reply_of s.after) parts.1 in
    let twin = twins s.after t.after found.0 r (reply_of-tells s.after found.0 (found.1).0) (reply_of-tells t.after r e) (same_header-fields found.0 r (found.1).1) in
    and_from (shares t.nat t.after s) (s.after.p == t.after.p)
    (and_from (s.nat.0 == t.nat.0) ((s.after.proto == t.after.proto) && ((s.after.dst == t.after.dst) && (s.after.q == t.after.q))) parts.0
    (and_from (s.after.proto == t.after.proto) ((s.after.dst == t.after.dst) && (s.after.q == t.after.q)) (eq-eqb s.after.proto t.after.proto twin.proto)
    (and_from (s.after.dst == t.after.dst) (s.after.q == t.after.q) (eq-eqb s.after.dst t.after.dst twin.dst) (eq-eqb s.after.q t.after.q twin.q))))
    (eq-eqb s.after.p t.after.p twin.p)

find-own : (ts : List Translation) (t : Translation) (r : Header) → IsDistinct collide ts → Contains ts t → reply_of t.after ≡ Some r → find (is_answered t.nat r) ts ≡ Some t
find-own [] t r apart (k, below, at) e = absurd (omega arith)
find-own (s ∷ ts) t r apart has e =
    elim (Contains-cases s t ts has) [
      | inl same ↦ rw (same, answers-own t r e)
      | inr later ↦ elim (cases_Bool (is_answered t.nat r s)) [
        | inl hit ↦ absurd (both_ways (collide s t) (AllByRecursion-at (λ u. collide s u ≡ false) ts t (IsDistinct-head collide s ts apart) later) (answered-collide s t r e hit))
        | inr miss ↦ rw miss (find-own ts t r (IsDistinct-tail collide s ts apart) later e)
      ]
    ]

pub answer_finds_its_open : (ts : List Translation) (t : Translation) (r : Header) → IsBook ts → Contains ts t → reply_of t.after ≡ Some r → inward ts t.nat r ≡ reply_of t.before
answer_finds_its_open ts t r book has e = ap (option_and_then (λ (u : Translation). reply_of u.before)) (find-own ts t r book.apart has e)

-- ---- opens

pub known_open_is_reused : (d : Description) (appliances : Appliances) (n : NatNo) (h : Header) (conns : List Connection) (nats : List Translation) (t : Translation)
    → is_translatable h.proto ≡ true → translation_of nats n h ≡ Some t
    → let s = step_of d appliances Opening (record { place = NatOut n; header = h; conns = conns; nats = nats }) in (s.next ≡ from_nat d n t.after) × (s.nats ≡ nats)
known_open_is_reused d appliances n h conns nats t translatable known = (rw (translatable, known) refl, rw (translatable, known) refl)

pub full_gateway_stops : (d : Description) (appliances : Appliances) (n : NatNo) (h : Header) (conns : List Connection) (nats : List Translation)
    → is_translatable h.proto ≡ true → translation_of nats n h ≡ None → 55000 ≤ count_by (shares n h) nats
    → let s = step_of d appliances Opening (record { place = NatOut n; header = h; conns = conns; nats = nats }) in s.next ≡ stop (NatFull n)
full_gateway_stops d appliances n h conns nats translatable new full = rw (translatable, new, le-leb 55000 (count_by (shares n h) nats) full) refl

pub roomy_gateway_translates : (d : Description) (appliances : Appliances) (n : NatNo) (h : Header) (conns : List Connection) (nats : List Translation)
    → is_translatable h.proto ≡ true → translation_of nats n h ≡ None → count_by (shares n h) nats < 55000
    → let s = step_of d appliances Opening (record { place = NatOut n; header = h; conns = conns; nats = nats }) in
    let row = nat_at d n in
    let t = new_translation nats n (own_address row.life) h in
    (s.next ≡ from_nat d n t.after) × (s.nats ≡ nats ++ t ∷ [])
roomy_gateway_translates d appliances n h conns nats translatable new room =
    let few = lt-leb 55000 (count_by (shares n h) nats) room in
    (rw (translatable, new, few) refl, rw (translatable, new, few) refl)
