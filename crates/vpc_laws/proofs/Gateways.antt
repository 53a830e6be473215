-- What gateways rewrite.
use Rattle.std.proofs.Common.{Bool, Contains, List, None, Option, Some, [], ap, false, filter, find, inl, inr, option_and_then, option_map, refl, subst, sym, true, ℕ, ◌&&◌, ◌++◌, ◌<◌, ◌==◌, ◌^◌, ◌∙◌, ◌∷◌, ◌≡◌, ◌⊎◌}
use Rattle.std.specs.List.{AllByRecursion}
use Rattle.vpc_base.proofs.Lemmas.{AllByRecursion-at, Contains-push, and_parts, cases_Bool, cond_both, eq-eqb, eqb-true, filter-member, filter_map-member, find-member, flat_map-member, none-some, same_Some}
use Rattle.vpc_base.specs.Header.{echo_reply, exchanged, reply_of}
use Rattle.vpc_base.specs.declared.headers.Label.TheVariants.{Answer, Opening}
use Rattle.vpc_model.specs.declared.places.Place.TheVariants.{Enter, IgwIn, IgwOut, Internet, NatIn, NatOut}
use Rattle.vpc_model.specs.declared.places.EnterBy.TheVariants.{Gateway}
use Rattle.vpc_laws.specs.Types.{Description, Header, Hop, Label, NatNo, Place, Stop, VpcNo}
use Rattle.vpc_model.specs.Terms.{Appliances, Connection, Moment, Next, Step, Translation, arrive, blocked_at, from_inward, go, go_private, go_public, inward, is_full, is_header, is_in_vpc, is_translatable, nat_at, new_translation, own_address, pair_of, pairs_in, pairs_of, private_of, same_header, step_at, step_nat_in, step_nat_out, step_of, stop, translate, translation_of, unless_stopped, walk_of}
use Rattle.vpc_laws.specs.Terms.{ChangesDestination, ChangesSource, ChangesSourceAndPort, HasPair, IfGoes, IsBook, IsGivenBack, IsToOwn, IsTranslation, KeepsFlow}
use Rattle.vpc_laws.proofs.Books.{AllByRecursion-push}
use Rattle.vpc_laws.proofs.ByMemory.{by_memory}
use Rattle.vpc_laws.proofs.Flow.{is_of, open_keeps_flow}
use Rattle.vpc_laws.proofs.Growth.{step_into-nats, step_out-nats}
use Rattle.vpc_laws.proofs.Replies.{is_header-some}
use Rattle.vpc_laws.proofs.Same.{NatNo-same, same_header-true, three}
use Rattle.vpc_laws.proofs.Walking.{IsKept, NextFits, hop_at, open-in_order, walk_of-keeps}

-- ---- internet gateways

pair_of-some : (x : ℕ × Option ℕ) (p : ℕ × ℕ) → pair_of x ≡ Some p → x ≡ (p.0, Some p.1)
pair_of-some (a, None) p e = absurd (none-some p e)
pair_of-some (a, Some b) (f, g) e =
    let pair : ℕ × ℕ = (a, b) in
    let same : pair ≡ (f, g) = same_Some pair (f, g) e in
    ap (λ (q : ℕ × ℕ). (q.0, Some q.1)) same

-- a pair of a VPC is that of one of its interfaces
pairs_in-member : (d : Description) (v : VpcNo) (p : ℕ × ℕ) → Contains (pairs_in d v) p → HasPair d v p.0 p.1
pairs_in-member d v p has =
    let found = flat_map-member pairs_of (filter (is_in_vpc d v) d.interfaces) p has in
    let e = found.0 in
    let row = filter-member (is_in_vpc d v) d.interfaces e found.1 in
    let pair = filter_map-member pair_of e.addresses p found.2 in
    (e, row.1, row.0, subst (λ x. Contains e.addresses x) (pair_of-some pair.0 p pair.2) pair.1)

-- what holds of the header that comes next holds where a stop comes before it
unless-goes : (s : Option Stop) (q : Place) (k : Header) (P : Header → Type 0) → P k → IfGoes (unless_stopped s (go q k)) P
unless-goes None q k P holds = holds
unless-goes (Some s) q k P holds = tt

public-found : (d : Description) (v : VpcNo) (h : Header) (p : Option (ℕ × ℕ)) → find (λ (p : ℕ × ℕ). p.0 == h.src) (pairs_in d v) ≡ p
    → IfGoes (go_public d v h (option_map (λ (p : ℕ × ℕ). p.1) p)) (λ k. ChangesSource h k × HasPair d v h.src k.src)
public-found d v h None e = tt
public-found d v h (Some p) e =
    let found = find-member (λ (p : ℕ × ℕ). p.0 == h.src) (pairs_in d v) p e in
    unless-goes (blocked_at d v h.src) Internet (record h { src = p.1 }) (λ k. ChangesSource h k × HasPair d v h.src k.src)
    (refl, subst (λ own. HasPair d v own p.1) (eqb-true p.0 h.src found.0) (pairs_in-member d v p found.1))

private-found : (d : Description) (v : VpcNo) (h : Header) (p : Option (ℕ × ℕ)) → find (λ (p : ℕ × ℕ). p.1 == h.dst) (pairs_in d v) ≡ p
    → let own = option_map (λ (p : ℕ × ℕ). p.0) p in
    IfGoes (go_private d v h own) (λ k. ChangesDestination h k × (HasPair d v k.dst h.dst ⊎ ((own ≡ None) × (k.dst ≡ h.dst))))
private-found d v h None e = (refl, inr (refl, refl))
private-found d v h (Some p) e =
    let found = find-member (λ (p : ℕ × ℕ). p.1 == h.dst) (pairs_in d v) p e in
    let own : Option ℕ = Some p.0 in
    unless-goes (blocked_at d v p.0) (Enter v Gateway) (record h { dst = p.0 }) (λ k. ChangesDestination h k × (HasPair d v k.dst h.dst ⊎ ((own ≡ None) × (k.dst ≡ h.dst))))
    (refl, inl (subst (λ a. HasPair d v p.0 a) (eqb-true p.1 h.dst found.0) (pairs_in-member d v p found.1)))

-- a step at a place that is given
pub at-place : (d : Description) (appliances : Appliances) (label : Label) (m : Moment) (p : Place) (P : Step → Type 0) → m.place ≡ p → P (step_at d appliances label p m) → P (step_of d appliances label m)
at-place d appliances label m p P here good = subst (λ q. P (step_at d appliances label q m)) (sym here) good

pub outward_changes_source : (d : Description) (appliances : Appliances) (label : Label) (m : Moment) (v : VpcNo) → m.place ≡ IgwOut v
    → let s = step_of d appliances label m in IfGoes s.next (λ k. ChangesSource m.header k × HasPair d v m.header.src k.src)
outward_changes_source d appliances label m v here =
    at-place d appliances label m (IgwOut v) (λ (s : Step). IfGoes s.next (λ k. ChangesSource m.header k × HasPair d v m.header.src k.src)) here
    (public-found d v m.header (find (λ (p : ℕ × ℕ). p.0 == m.header.src) (pairs_in d v)) refl)

pub inward_changes_destination : (d : Description) (appliances : Appliances) (label : Label) (m : Moment) (v : VpcNo) → m.place ≡ IgwIn v
    → let s = step_of d appliances label m in
    IfGoes s.next (λ k. ChangesDestination m.header k × (HasPair d v k.dst m.header.dst ⊎ ((private_of d v m.header.dst ≡ None) × (k.dst ≡ m.header.dst))))
inward_changes_destination d appliances label m v here =
    at-place d appliances label m (IgwIn v) (λ (s : Step). IfGoes s.next (λ k. ChangesDestination m.header k × (HasPair d v k.dst m.header.dst ⊎ ((private_of d v m.header.dst ≡ None) × (k.dst ≡ m.header.dst))))) here
    (private-found d v m.header (find (λ (p : ℕ × ℕ). p.1 == m.header.dst) (pairs_in d v)) refl)

-- ---- out by NAT gateways

abbrev IsSent : NatNo → Header → List Translation → Header → Type 0
IsSent n h nats k = ChangesSourceAndPort h k × ((t : Translation) × Contains nats t × (t.nat ≡ n) × (t.before ≡ h) × (t.after ≡ k))

header-of : (h k : Header) → k.proto ≡ h.proto → k.dst ≡ h.dst → k.q ≡ h.q → ChangesSourceAndPort h k
header-of h k a b c =
    let make : ℕ → ℕ → ℕ → Header = λ proto dst q. record { proto = proto; src = k.src; dst = dst; p = k.p; q = q } in
    three make k.proto h.proto k.dst h.dst k.q h.q a b c

translation-changes : (t : Translation) (h : Header) → IsTranslation t → t.before ≡ h → ChangesSourceAndPort h t.after
translation-changes t h is same =
    header-of h t.after (is.proto ∙ ap (λ (g : Header). g.proto) same) (is.dst ∙ ap (λ (g : Header). g.dst) same) (is.q ∙ ap (λ (g : Header). g.q) same)

translate-sends : (d : Description) (n : NatNo) (m : Moment) (t : Option Translation) → translation_of m.nats n m.header ≡ t → AllByRecursion IsTranslation m.nats
    → let s = translate d n m t in IfGoes s.next (IsSent n m.header s.nats)
translate-sends d n m None e all =
    let row = nat_at d n in
    let t = new_translation m.nats n (own_address row.life) m.header in
    cond_both (is_full m.nats n m.header) _ _ (λ (s : Step). IfGoes s.next (IsSent n m.header s.nats)) (λ _. tt)
    (λ _. (refl, (t, Contains-push m.nats t, refl, refl, refl)))
translate-sends d n m (Some t) e all =
    let found = find-member (is_of n m.header) m.nats t e in
    let parts = and_parts (t.nat.0 == n.0) (same_header t.before m.header) found.0 in
    let same = same_header-true t.before m.header parts.1 in
    (translation-changes t m.header (AllByRecursion-at IsTranslation m.nats t all found.1) same, (t, found.1, NatNo-same t.nat n parts.0, same, refl))

step_nat_out-sends : (d : Description) (label : Label) (n : NatNo) (m : Moment) → AllByRecursion IsTranslation m.nats → let s = step_nat_out d label n m in IfGoes s.next (IsSent n m.header s.nats)
step_nat_out-sends d Answer n m all = tt
step_nat_out-sends d Opening n m all =
    cond_both (is_translatable m.header.proto) (translate d n m (translation_of m.nats n m.header)) _ (λ (s : Step). IfGoes s.next (IsSent n m.header s.nats))
    (λ _. translate-sends d n m (translation_of m.nats n m.header) refl all) (λ _. tt)

pub nat_changes_source_and_port : (d : Description) (appliances : Appliances) (label : Label) (m : Moment) (n : NatNo) → m.place ≡ NatOut n → AllByRecursion IsTranslation m.nats
    → let s = step_of d appliances label m in
    IfGoes s.next (λ k. ChangesSourceAndPort m.header k × ((t : Translation) × Contains s.nats t × (t.nat ≡ n) × (t.before ≡ m.header) × (t.after ≡ k)))
nat_changes_source_and_port d appliances label m n here all =
    at-place d appliances label m (NatOut n) (λ (s : Step). IfGoes s.next (IsSent n m.header s.nats)) here (step_nat_out-sends d label n m all)

-- ---- own addresses

abbrev GivesOwn : Description → NatNo → Step → Type 0
GivesOwn d n s = AllByRecursion (IsToOwn d) s.nats × (let row = nat_at d n in IfGoes s.next (λ k. k.src ≡ own_address row.life))

translate-own : (d : Description) (n : NatNo) (m : Moment) (t : Option Translation) → translation_of m.nats n m.header ≡ t → AllByRecursion (IsToOwn d) m.nats → GivesOwn d n (translate d n m t)
translate-own d n m None e all =
    let row = nat_at d n in
    let t = new_translation m.nats n (own_address row.life) m.header in
    cond_both (is_full m.nats n m.header) _ _ (λ (s : Step). GivesOwn d n s) (λ _. (all, tt)) (λ _. (AllByRecursion-push (IsToOwn d) m.nats t all refl, refl))
translate-own d n m (Some t) e all =
    let found = find-member (is_of n m.header) m.nats t e in
    let parts = and_parts (t.nat.0 == n.0) (same_header t.before m.header) found.0 in
    let own = AllByRecursion-at (IsToOwn d) m.nats t all found.1 in
    (all, subst (λ k. let row = nat_at d k in t.after.src ≡ own_address row.life) (NatNo-same t.nat n parts.0) own)

step_nat_out-own : (d : Description) (label : Label) (n : NatNo) (m : Moment) → AllByRecursion (IsToOwn d) m.nats → GivesOwn d n (step_nat_out d label n m)
step_nat_out-own d Answer n m all = (all, tt)
step_nat_out-own d Opening n m all =
    cond_both (is_translatable m.header.proto) (translate d n m (translation_of m.nats n m.header)) _ (λ (s : Step). GivesOwn d n s)
    (λ _. translate-own d n m (translation_of m.nats n m.header) refl all) (λ _. (all, tt))

-- the translations at a place are those before, or it is a NAT gateway's
nats-own : (d : Description) (appliances : Appliances) (label : Label) (p : Place) (m : Moment) → AllByRecursion (IsToOwn d) m.nats → AllByRecursion (IsToOwn d) (step_at d appliances label p m).nats
nats-own d appliances label p m all =
    by_memory (λ q. AllByRecursion (IsToOwn d) (step_at d appliances label q m).nats)
    (λ i. subst (AllByRecursion (IsToOwn d)) (sym (step_out-nats d label i m)) all) (λ i. subst (AllByRecursion (IsToOwn d)) (sym (step_into-nats d appliances label i m)) all)
    (λ n. (step_nat_out-own d label n m all).0)
    (λ q rest. subst (AllByRecursion (IsToOwn d)) (sym (ap (λ (s : Step). s.nats) (rest.step d appliances label m))) all) p

pub nat_gives_own_address : (d : Description) (appliances : Appliances) (label : Label) (m : Moment) → AllByRecursion (IsToOwn d) m.nats
    → let s = step_of d appliances label m in
    AllByRecursion (IsToOwn d) s.nats × ((n : NatNo) → m.place ≡ NatOut n → let row = nat_at d n in IfGoes s.next (λ k. k.src ≡ own_address row.life))
nat_gives_own_address d appliances label m all = (
  nats-own d appliances label m.place m all,
  λ n here. (at-place d appliances label m (NatOut n) (λ (s : Step). GivesOwn d n s) here (step_nat_out-own d label n m all)).1,
)

abbrev AreOwn : Description → Next → List Hop → List Connection → List Translation → Type 0
AreOwn d x hops conns nats = AllByRecursion (IsToOwn d) nats

AreOwn-kept : (d : Description) (appliances : Appliances) (label : Label) → IsKept d appliances label (AreOwn d)
AreOwn-kept d appliances label hops m new own = (nat_gives_own_address d appliances label m own).0

pub walk_gives_own_addresses : (d : Description) (appliances : Appliances) (label : Label) (m : Moment) → AllByRecursion (IsToOwn d) m.nats → let w = walk_of d appliances label m in AllByRecursion (IsToOwn d) w.nats
walk_gives_own_addresses d appliances label m own =
    (walk_of-keeps d appliances label (AreOwn d) (AreOwn-kept d appliances label) m (nat_gives_own_address d appliances label m own).0).1

-- ---- back by NAT gateways

given-back : (t : Translation) (h k : Header) → IsTranslation t → reply_of t.after ≡ Some h → reply_of t.before ≡ Some k → IsGivenBack t h k
given-back t h k is e f =
    elim (cases_Bool (t.before.proto == 1)) [
      | inl icmp ↦
          let one = eqb-true t.before.proto 1 icmp in
          let after_icmp : (t.after.proto == 1) ≡ true = eq-eqb t.after.proto 1 (is.proto ∙ one) in
          elim (cases_Bool (t.before.q == 2048)) [
            | inl asks ↦
                let after_asks : (t.after.q == 2048) ≡ true = eq-eqb t.after.q 2048 (is.q ∙ eqb-true t.before.q 2048 asks) in
                let x : echo_reply t.after ≡ h = same_Some (echo_reply t.after) h (rw (after_icmp, after_asks) at e) in
                let y : echo_reply t.before ≡ k = same_Some (echo_reply t.before) k (rw (icmp, asks) at f) in
                let h_icmp : (h.proto == 1) ≡ true = eq-eqb h.proto 1 (sym (ap (λ (g : Header). g.proto) x) ∙ is.proto ∙ one) in
                record {
                  proto = sym (ap (λ (g : Header). g.proto) y) ∙ sym is.proto ∙ ap (λ (g : Header). g.proto) x;
                  src = sym (ap (λ (g : Header). g.src) y) ∙ sym is.dst ∙ ap (λ (g : Header). g.src) x;
                  dst = sym (ap (λ (g : Header). g.dst) y);
                  p = rw h_icmp (sym (ap (λ (g : Header). g.p) y));
                  q = rw h_icmp (sym (ap (λ (g : Header). g.q) y) ∙ ap (λ (g : Header). g.q) x);
                }
            | inr says ↦ let none : None ≡ Some k = (rw (icmp, says) at f) in absurd (none-some k none)
          ]
      | inr other ↦
          let after_other : (t.after.proto == 1) ≡ false = ap (λ n. n == 1) is.proto ∙ other in
          let x : exchanged t.after ≡ h = same_Some (exchanged t.after) h (rw after_other at e) in
          let y : exchanged t.before ≡ k = same_Some (exchanged t.before) k (rw other at f) in
          let h_other : (h.proto == 1) ≡ false = ap (λ n. n == 1) (sym (ap (λ (g : Header). g.proto) x)) ∙ after_other in
          record {
            proto = sym (ap (λ (g : Header). g.proto) y) ∙ sym is.proto ∙ ap (λ (g : Header). g.proto) x;
            src = sym (ap (λ (g : Header). g.src) y) ∙ sym is.dst ∙ ap (λ (g : Header). g.src) x;
            dst = sym (ap (λ (g : Header). g.dst) y);
            p = rw h_other (sym (ap (λ (g : Header). g.p) y) ∙ sym is.q ∙ ap (λ (g : Header). g.p) x);
            q = rw h_other (sym (ap (λ (g : Header). g.q) y));
          }
    ]

-- the translation that an answer finds
abbrev is_answered : NatNo → Header → Translation → Bool
is_answered n h t = (t.nat.0 == n.0) && is_header h (reply_of t.after)

answered : (ts : List Translation) (n : NatNo) (r k : Header) (t : Option Translation) → find (is_answered n r) ts ≡ t → option_and_then (λ (t : Translation). reply_of t.before) t ≡ Some k
    → (t : Translation) × Contains ts t × (t.nat ≡ n) × (reply_of t.after ≡ Some r) × (reply_of t.before ≡ Some k)
answered ts n r k None e f = absurd (none-some k f)
answered ts n r k (Some t) e f =
    let found = find-member (is_answered n r) ts t e in
    let parts = and_parts (t.nat.0 == n.0) (is_header r (reply_of t.after)) found.0 in
    let reply = is_header-some r (reply_of t.after) parts.1 in
    (t, found.1, NatNo-same t.nat n parts.0, (reply.1).0 ∙ ap Some (same_header-true reply.0 r (reply.1).1), f)

pub inward_answers_opens : (ts : List Translation) (n : NatNo) (r k : Header) → inward ts n r ≡ Some k
    → (t : Translation) × Contains ts t × (t.nat ≡ n) × (reply_of t.after ≡ Some r) × (reply_of t.before ≡ Some k)
inward_answers_opens ts n r k e = answered ts n r k (find (is_answered n r) ts) refl e

abbrev IsBack : NatNo → List Translation → Header → Header → Type 0
IsBack n nats h k = (t : Translation) × Contains nats t × (t.nat ≡ n) × (reply_of t.after ≡ Some h) × IsGivenBack t h k

from_inward-back : (d : Description) (n : NatNo) (nats : List Translation) (h : Header) (k : Option Header) → AllByRecursion IsTranslation nats → inward nats n h ≡ k → IfGoes (from_inward d n k) (IsBack n nats h)
from_inward-back d n nats h None all e = tt
from_inward-back d n nats h (Some k) all e =
    let found = inward_answers_opens nats n h k e in
    let t = found.0 in
    (t, found.1, found.2, found.3, given-back t h k (AllByRecursion-at IsTranslation nats t all found.1) found.3 found.4)

step_nat_in-back : (d : Description) (label : Label) (n : NatNo) (m : Moment) → AllByRecursion IsTranslation m.nats → IfGoes (step_nat_in d label n m).next (IsBack n m.nats m.header)
step_nat_in-back d Opening n m all = tt
step_nat_in-back d Answer n m all = from_inward-back d n m.nats m.header (inward m.nats n m.header) all refl

pub nat_gives_back : (d : Description) (appliances : Appliances) (label : Label) (m : Moment) (n : NatNo) → m.place ≡ NatIn n → AllByRecursion IsTranslation m.nats
    → let s = step_of d appliances label m in IfGoes s.next (λ k. (t : Translation) × Contains m.nats t × (t.nat ≡ n) × (reply_of t.after ≡ Some m.header) × IsGivenBack t m.header k)
nat_gives_back d appliances label m n here all =
    at-place d appliances label m (NatIn n) (λ (s : Step). IfGoes s.next (IsBack n m.nats m.header)) here (step_nat_in-back d label n m all)

-- ---- whole walks

abbrev OfFlow : Header → Hop → Type 0
OfFlow g h = (h.header.proto ≡ g.proto) × (h.header.q ≡ g.q)

abbrev KeepFlow : Header → Next → List Hop → List Connection → List Translation → Type 0
KeepFlow g x hops conns nats = NextFits x × IsBook nats × KeepsFlow g x × AllByRecursion (OfFlow g) hops

KeepsFlow-trans : (g h : Header) (x : Next) → h.proto ≡ g.proto → h.q ≡ g.q → KeepsFlow h x → KeepsFlow g x
KeepsFlow-trans g h (go p k) a b keeps = (keeps.0 ∙ a, keeps.1 ∙ b)
KeepsFlow-trans g h (arrive end) a b keeps = tt
KeepsFlow-trans g h (stop s) a b keeps = tt

flow-step : (d : Description) (appliances : Appliances) (g : Header) (hops : List Hop) (m : Moment) → m.header.p < 2 ^ 16 → IsBook m.nats → m.header.proto ≡ g.proto → m.header.q ≡ g.q → AllByRecursion (OfFlow g) hops
    → let s = step_of d appliances Opening m in KeepFlow g s.next (hops ++ hop_at d appliances Opening m ∷ []) s.conns s.nats
flow-step d appliances g hops m fits book a b all =
    let order = open-in_order d appliances m fits book in
    let s = step_of d appliances Opening m in
    (order.0, order.1, KeepsFlow-trans g m.header s.next a b (open_keeps_flow d appliances m book.translations), AllByRecursion-push (OfFlow g) hops (hop_at d appliances Opening m) all (a, b))

KeepFlow-kept : (d : Description) (appliances : Appliances) (g : Header) → IsKept d appliances Opening (KeepFlow g)
KeepFlow-kept d appliances g hops m new good = flow-step d appliances g hops m good.0 good.1 (good.2).0 (good.2).1 good.3

pub walk_keeps_flow : (d : Description) (appliances : Appliances) (m : Moment) → m.header.p < 2 ^ 16 → IsBook m.nats
    → let w = walk_of d appliances Opening m in AllByRecursion (λ h. (h.header.proto ≡ m.header.proto) × (h.header.q ≡ m.header.q)) w.hops
walk_keeps_flow d appliances m fits book =
    ((walk_of-keeps d appliances Opening (KeepFlow m.header) (KeepFlow-kept d appliances m.header) m (flow-step d appliances m.header [] m fits book refl refl tt)).1).3
