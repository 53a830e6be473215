-- What some steps leave as it was.
use Rattle.std.proofs.Common.{◌≡◌, ◌||◌, List, None, Option, Some, cond, refl, subst, sym}
use Rattle.std.proofs.lemmas.Bool.{cond_both}
use Rattle.packet_emulator.specs.Moments.{at_place}
use Rattle.vpc_base.specs.declared.headers.Label.TheVariants as labels
use Rattle.vpc_laws.specs.Types.{Description, EniNo, Header, Label, NatNo, Place}
use Rattle.vpc_laws.proofs.Growth.{step_into-nats, step_out-nats}
use Rattle.vpc_model.specs.Appliances.{Appliances}
use Rattle.vpc_model.specs.Connections.{Connection}
use Rattle.vpc_model.specs.Internet.{is_unroutable, owner_of}
use Rattle.vpc_model.specs.Nat.{Translation, is_full, is_translatable, translation_of}
use Rattle.vpc_model.specs.Step.{step_of}
use Rattle.vpc_model.specs.Step.Internet.{to_owner}
use Rattle.vpc_model.specs.Step.Nat.{step_nat_out, translate}
use Rattle.vpc_model.specs.Step.Words.{Moment, Step, plain, stop}
use Rattle.vpc_model.specs.declared.outcomes.By.TheVariants as bys
use Rattle.vpc_model.specs.declared.places.Place.TheVariants as places
use Rattle.vpc_model.specs.declared.stops.Stop.TheVariants as stops
use Rattle.vpc_model.proofs.Nexts.{plain-either}

-- ---- interfaces leave translations alone

pub nats-out : (d : Description) (a : Appliances) (label : Label) (i : EniNo) (p : Place) (h : Header) (conns : List Connection) (nats : List Translation)
    → p ≡ places.OutOf i → (step_of d a label (at_place p h conns nats)).nats ≡ nats
nats-out d a label i p h conns nats e =
    subst (λ (x : Place). (step_of d a label (at_place x h conns nats)).nats ≡ nats) (sym e) (step_out-nats d label i (at_place (places.OutOf i) h conns nats))

pub nats-into : (d : Description) (a : Appliances) (label : Label) (i : EniNo) (p : Place) (h : Header) (conns : List Connection) (nats : List Translation)
    → p ≡ places.Into i → (step_of d a label (at_place p h conns nats)).nats ≡ nats
nats-into d a label i p h conns nats e =
    subst (λ (x : Place). (step_of d a label (at_place x h conns nats)).nats ≡ nats) (sym e) (step_into-nats d a label i (at_place (places.Into i) h conns nats))

-- ---- the internet remembers nothing

pub internet-plain : (d : Description) (a : Appliances) (label : Label) (p : Place) (h : Header) (conns : List Connection) (nats : List Translation)
    → p ≡ places.Internet → step_of d a label (at_place p h conns nats)
    ≡ plain (at_place p h conns nats) (cond (is_unroutable h.src || is_unroutable h.dst) (stop stops.PrivateAddress) (to_owner d h (owner_of d h.dst)))
internet-plain d a label p h conns nats e =
    subst (λ (x : Place). step_of d a label (at_place x h conns nats)
    ≡ plain (at_place x h conns nats) (cond (is_unroutable h.src || is_unroutable h.dst) (stop stops.PrivateAddress) (to_owner d h (owner_of d h.dst)))) (sym e)
    (plain-either (at_place places.Internet h conns nats) (is_unroutable h.src || is_unroutable h.dst) (stop stops.PrivateAddress) (to_owner d h (owner_of d h.dst)))

-- ---- a NAT gateway asks no groups

-- no groups were asked, and no connection was added
abbrev Unasked : List Connection → Step → Type 0
Unasked conns s = (s.by ≡ bys.Nothing) × (s.conns ≡ conns)

translate-unasked : (d : Description) (n : NatNo) (m : Moment) (o : Option Translation) → Unasked m.conns (translate d n m o)
translate-unasked d n m (Some t) = (refl, refl)
translate-unasked d n m None = cond_both (is_full m.nats n m.header) _ _ (Unasked m.conns) (λ _. (refl, refl)) (λ _. (refl, refl))

step_nat_out-unasked : (d : Description) (label : Label) (n : NatNo) (m : Moment) → Unasked m.conns (step_nat_out d label n m)
step_nat_out-unasked d labels.Answer n m = (refl, refl)
step_nat_out-unasked d labels.Opening n m =
    cond_both (is_translatable m.header.proto) _ _ (Unasked m.conns) (λ _. translate-unasked d n m (translation_of m.nats n m.header)) (λ _. (refl, refl))

pub nat_out-unasked : (d : Description) (a : Appliances) (label : Label) (n : NatNo) (p : Place) (h : Header) (conns : List Connection) (nats : List Translation)
    → p ≡ places.NatOut n → let s = step_of d a label (at_place p h conns nats) in (s.by ≡ bys.Nothing) × (s.conns ≡ conns)
nat_out-unasked d a label n p h conns nats e =
    subst (λ (x : Place). Unasked conns (step_of d a label (at_place x h conns nats))) (sym e) (step_nat_out-unasked d label n (at_place (places.NatOut n) h conns nats))
