-- What gateways rewrite.
use Rattle.std.specs.Prelude.{◌≡◌, ◌<◌, ◌^◌, ◌==◌, ◌⊎◌, if◌then◌else◌, Contains, None, Some, true, ℕ}
use Rattle.std.specs.List.{AllByRecursion}
use Rattle.vpc_laws.specs.Types.{Description, Header, Interface, Label, NatNo, VpcNo}
use Rattle.vpc_base.specs.declared.headers.Label.TheVariants as labels
use Rattle.vpc_model.specs.declared.places.Place.TheVariants as places
use Rattle.vpc_base.specs.Header.{reply_of}
use Rattle.vpc_model.specs.Accepted.{IsAccepted}
use Rattle.vpc_model.specs.Appliances.{Appliances}
use Rattle.vpc_model.specs.Internet.{private_of}
use Rattle.vpc_model.specs.Lookup.{has_address, is_in_vpc, nat_at}
use Rattle.vpc_model.specs.Nat.{Translation}
use Rattle.vpc_model.specs.Sound.{is_sound}
use Rattle.vpc_model.specs.Step.{step_of}
use Rattle.vpc_model.specs.Step.Nat.{own_address}
use Rattle.vpc_model.specs.Step.Words.{Moment, Next, arrive, go, stop}
use Rattle.vpc_model.specs.Walk.{walk_of}
use Rattle.vpc_laws.specs.Translations.{IsBook, IsTranslation}

-- ---- words

-- what holds of the header that comes next, if one does
abbrev pub IfGoes : Next → (Header → Type 0) → Type 0
IfGoes (go p k) Holds = Holds k
IfGoes (arrive end) Holds = Unit {0}
IfGoes (stop s) Holds = Unit {0}

-- another source, and nothing else
abbrev pub ChangesSource : Header → Header → Type 0
ChangesSource h k = k ≡ record h { src = k.src }

-- another destination, and nothing else
abbrev pub ChangesDestination : Header → Header → Type 0
ChangesDestination h k = k ≡ record h { dst = k.dst }

-- another source and another p, and nothing else
abbrev pub ChangesSourceAndPort : Header → Header → Type 0
ChangesSourceAndPort h k = k ≡ record h { src = k.src; p = k.p }

-- an interface of the VPC has the private address, and the public one for it
abbrev pub HasPair : Description → VpcNo → ℕ → ℕ → Type 0
HasPair d v own public =
    (e : Interface) × Contains d.interfaces e × (is_in_vpc d v e ≡ true)
    × Contains e.addresses (own, Some public)

-- ---- internet gateways

-- out by an internet gateway a packet gets another source alone, the public address of its own
abbrev pub OutwardChangesSource : Type 0
OutwardChangesSource =
    (d : Description) (appliances : Appliances) (label : Label) (m : Moment) (v : VpcNo)
    → m.place ≡ places.IgwOut v
    → let s = step_of d appliances label m in
    IfGoes s.next (λ k. ChangesSource m.header k × HasPair d v m.header.src k.src)

-- in by an internet gateway a packet gets another destination alone, the private address of its own if
-- there is one
abbrev pub InwardChangesDestination : Type 0
InwardChangesDestination =
    (d : Description) (appliances : Appliances) (label : Label) (m : Moment) (v : VpcNo)
    → m.place ≡ places.IgwIn v
    → let s = step_of d appliances label m in
    IfGoes s.next (λ k. ChangesDestination m.header k
    × (HasPair d v k.dst m.header.dst ⊎ ((private_of d v m.header.dst ≡ None) × (k.dst ≡ m.header.dst))))

-- ---- NAT gateways

-- out by a NAT gateway an open gets another source and p alone, those of a translation that is remembered
abbrev pub NatChangesSourceAndPort : Type 0
NatChangesSourceAndPort =
    (d : Description) (appliances : Appliances) (label : Label) (m : Moment) (n : NatNo)
    → m.place ≡ places.NatOut n
    → AllByRecursion IsTranslation m.nats
    → let s = step_of d appliances label m in
    IfGoes s.next (λ k. ChangesSourceAndPort m.header k
    × ((t : Translation) × Contains s.nats t × (t.nat ≡ n) × (t.before ≡ m.header) × (t.after ≡ k)))

-- the translation is to its gateway's own address
abbrev pub IsToOwn : Description → Translation → Type 0
IsToOwn d t = let row = nat_at d t.nat in t.after.src ≡ own_address row.life

-- the source is then the gateway's own address, where translations were to own addresses before, and
-- they are so after
abbrev pub NatGivesOwnAddress : Type 0
NatGivesOwnAddress =
    (d : Description) (appliances : Appliances) (label : Label) (m : Moment)
    → AllByRecursion (IsToOwn d) m.nats
    → let s = step_of d appliances label m in
    AllByRecursion (IsToOwn d) s.nats
    × ((n : NatNo) → m.place ≡ places.NatOut n → let row = nat_at d n in IfGoes s.next (λ k. k.src ≡ own_address row.life))

-- a whole walk keeps that
abbrev pub WalkGivesOwnAddresses : Type 0
WalkGivesOwnAddresses =
    (d : Description) (appliances : Appliances) (label : Label) (m : Moment)
    → AllByRecursion (IsToOwn d) m.nats
    → let w = walk_of d appliances label m in AllByRecursion (IsToOwn d) w.nats

-- in an accepted description that is an address of an interface
abbrev pub NatSourcesAreInterfaces : Type 0
NatSourcesAreInterfaces =
    (d : Description) (appliances : Appliances) (label : Label) (m : Moment) (n : NatNo) → IsAccepted d
    → is_sound d (places.NatOut n) ≡ true
    → m.place ≡ places.NatOut n → AllByRecursion (IsToOwn d) m.nats
    → let s = step_of d appliances label m in
    IfGoes s.next (λ k. (e : Interface) × Contains d.interfaces e × (has_address e k.src ≡ true))

-- an answer to what a translation sent out becomes one to the open before it: its destination and q, of
-- ICMP its p, are the source
-- and p of that open, and nothing else changes
pub record IsGivenBack (t : Translation) (h k : Header) : Type 0 where
  pub proto : k.proto ≡ h.proto
  pub src : k.src ≡ h.src
  pub dst : k.dst ≡ t.before.src
  pub p : k.p ≡ (if h.proto == 1 then t.before.p else h.p)
  pub q : k.q ≡ (if h.proto == 1 then h.q else t.before.p)

-- back by a NAT gateway an answer to a translated open is given back to it
abbrev pub NatGivesBack : Type 0
NatGivesBack =
    (d : Description) (appliances : Appliances) (label : Label) (m : Moment) (n : NatNo)
    → m.place ≡ places.NatIn n
    → AllByRecursion IsTranslation m.nats
    → let s = step_of d appliances label m in
    IfGoes s.next (λ k. (t : Translation) × Contains m.nats t × (t.nat ≡ n) × (reply_of t.after ≡ Some m.header) × IsGivenBack t m.header k)

-- ---- whole walks

-- an open keeps its protocol and q through a whole walk
abbrev pub WalkKeepsFlow : Type 0
WalkKeepsFlow =
    (d : Description) (appliances : Appliances) (m : Moment) → m.header.p < 2 ^ 16 → IsBook m.nats
    → let w = walk_of d appliances labels.Opening m in
    AllByRecursion (λ h. (h.header.proto ≡ m.header.proto) × (h.header.q ≡ m.header.q)) w.hops
