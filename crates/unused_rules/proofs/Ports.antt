-- Where no NAT gateway is described, packets keep protocol and ports.
use Rattle.std.proofs.Common.{◌≡◌, ◌∙◌, ◌&&◌, [], Bool, List, None, Option, Some, ap, arith, false, length, refl, sym, true, ℕ}
use Rattle.std.specs.Prelude.{nat_lt}
use Rattle.std.proofs.lemmas.Bool.{and_parts, true≢false}
use Rattle.std.proofs.lemmas.Bool.Decides.{nat_tests}
use Rattle.vpc_laws.proofs.Lemmas.{header_stays}
use Rattle.vpc_laws.proofs.Sounding.{steps_are_sound}
use Rattle.vpc_laws.proofs.Walking.{moment}
use Rattle.vpc_laws.specs.Sound.{LeadsWell}
use Rattle.vpc_laws.specs.Step.{SendsSame}
use Rattle.vpc_laws.specs.Types.{Description, Header, Label, NatGateway, NatNo, Place, Stop, VpcNo}
use Rattle.vpc_model.specs.Terms.{Appliances, Connection, IsAccepted, Moment, Next, Translation, arrive, blocked_at, go, go_private, go_public, is_live, is_nat, is_sound, nat_at, private_of, public_of, step_of, stop, unless_stopped}
use Rattle.vpc_model.specs.declared.places.EnterBy.TheVariants as through
use Rattle.vpc_model.specs.declared.places.Place.TheVariants as places
use Rattle.unused_rules.proofs.SameWalks.{IfGoesTo}

-- the second header has the protocol and the ports of the first
pub record HasPortsOf (h k : Header) : Type 0 where
  pub proto : k.proto ≡ h.proto
  pub p : k.p ≡ h.p
  pub q : k.q ≡ h.q

pub has_its_own : (h : Header) → HasPortsOf h h
has_its_own h = record { proto = refl; p = refl; q = refl }

pub has_through : (h k j : Header) → HasPortsOf h k → HasPortsOf k j → HasPortsOf h j
has_through h k j one other = record { proto = other.proto ∙ one.proto; p = other.p ∙ one.p; q = other.q ∙ one.q }

abbrev KeepsPorts : Header → Next → Type 0
KeepsPorts h (go p k) = HasPortsOf h k
KeepsPorts h (arrive end) = Unit {0}
KeepsPorts h (stop s) = Unit {0}

same-ports : (h : Header) (x : Next) → SendsSame h x → KeepsPorts h x
same-ports h (go p k) same = record { proto = ap (λ (j : Header). j.proto) same; p = ap (λ (j : Header). j.p) same; q = ap (λ (j : Header). j.q) same }
same-ports h (arrive end) same = tt
same-ports h (stop s) same = tt

unless-ports : (h k : Header) (s : Option Stop) (p : Place) → HasPortsOf h k → KeepsPorts h (unless_stopped s (go p k))
unless-ports h k None p kept = kept
unless-ports h k (Some s) p kept = tt

public-ports : (d : Description) (v : VpcNo) (h : Header) (a : Option ℕ) → KeepsPorts h (go_public d v h a)
public-ports d v h None = tt
public-ports d v h (Some a) = unless-ports h (record h { src = a }) (blocked_at d v h.src) places.Internet (record { proto = refl; p = refl; q = refl })

private-ports : (d : Description) (v : VpcNo) (h : Header) (own : Option ℕ) → KeepsPorts h (go_private d v h own)
private-ports d v h None = has_its_own h
private-ports d v h (Some own) = unless-ports h (record h { dst = own }) (blocked_at d v own) (places.Enter v through.Gateway) (record { proto = refl; p = refl; q = refl })

none-below : (n : ℕ) → nat_lt n 0 ≡ false
none-below n = grind (arith, nat_tests)

no-nat : (d : Description) (n : NatNo) (live : Bool) → d.nats ≡ [] → (is_nat d n && live) ≡ true → ⊥
no-nat d n live none sound =
    true≢false (sym (and_parts (is_nat d n) live sound).0 ∙ (ap (λ (nats : List NatGateway). nat_lt n.0 (length nats)) none ∙ none-below n.0))

ports-kept : (d : Description) (appliances : Appliances) (label : Label) → d.nats ≡ [] → (p : Place) (k : Header) (conns : List Connection)
    (nats : List Translation) → is_sound d p ≡ true
    → let s = step_of d appliances label (moment p k conns nats) in KeepsPorts k s.next
ports-kept d appliances label none (places.IgwOut v) k conns nats sound = public-ports d v k (public_of d v k.src)
ports-kept d appliances label none (places.IgwIn v) k conns nats sound = private-ports d v k (private_of d v k.dst)
ports-kept d appliances label none (places.NatOut n) k conns nats sound = let row = nat_at d n in absurd (no-nat d n (is_live row.life) none sound)
ports-kept d appliances label none (places.NatIn n) k conns nats sound = let row = nat_at d n in absurd (no-nat d n (is_live row.life) none sound)
ports-kept d appliances label none p k conns nats sound = same-ports k _ (header_stays d appliances label (moment p k conns nats) refl)

onward : (d : Description) (Of : Header → Type 0) (k : Header) (x : Next) → LeadsWell d x → KeepsPorts k x
    → ((j : Header) → HasPortsOf k j → Of j) → IfGoesTo (λ p. is_sound d p ≡ true) Of x
onward d Of k (go p j) well kept has = (well, has j kept)
onward d Of k (arrive end) well kept has = tt
onward d Of k (stop s) well kept has = tt

-- from a sound place packets go on to sound places with what holds of all headers with their ports
pub goes_on_sound : (d : Description) (appliances : Appliances) (label : Label) (Of : Header → Type 0) → IsAccepted d → d.nats ≡ [] → (m : Moment)
    → is_sound d m.place ≡ true → ((j : Header) → HasPortsOf m.header j → Of j)
    → let s = step_of d appliances label m in IfGoesTo (λ p. is_sound d p ≡ true) Of s.next
goes_on_sound d appliances label Of accepted none m sound has =
    let s = step_of d appliances label m in
    onward d Of m.header s.next (steps_are_sound d appliances label m accepted sound).0
    (ports-kept d appliances label none m.place m.header m.conns m.nats sound) has
