-- What NAT gateways keep of the opens that they sent out.
use Rattle.std.specs.Prelude.{◌≡◌, ◌≤◌, ◌<◌, ◌^◌, ◌==◌, ◌&&◌, ◌++◌, ◌∷◌, [], Bool, Contains, List, None, Some, count_by, false, true}
use Rattle.std.specs.List.{AllByRecursion, IsDistinct}
use Rattle.vpc_laws.specs.Types.{Description, Header, Label, NatNo}
use Rattle.vpc_base.specs.declared.headers.Label.TheVariants as labels
use Rattle.vpc_model.specs.declared.places.Place.TheVariants as places
use Rattle.vpc_model.specs.declared.stops.Stop.TheVariants as stops
use Rattle.vpc_base.specs.Header.{reply_of}
use Rattle.vpc_model.specs.Appliances.{Appliances}
use Rattle.vpc_model.specs.Connections.{Connection, same_header}
use Rattle.vpc_model.specs.Lookup.{nat_at}
use Rattle.vpc_model.specs.Nat.{Translation, first_port, free_port, inward, is_taken, is_translatable, new_translation, shares, translation_of}
use Rattle.vpc_model.specs.Step.{step_of}
use Rattle.vpc_model.specs.Step.Nat.{from_nat, own_address}
use Rattle.vpc_model.specs.Step.Words.{Moment, stop}

-- ---- words

-- a translation changes the source and p alone, of TCP, UDP or ICMP, to a p that isn't a well-known
-- port and fits its field
pub record IsTranslation (t : Translation) : Type 0 where
  pub proto : t.after.proto ≡ t.before.proto
  pub dst : t.after.dst ≡ t.before.dst
  pub q : t.after.q ≡ t.before.q
  pub translatable : is_translatable t.before.proto ≡ true
  pub least : 1024 ≤ t.after.p
  pub most : t.before.p < 2 ^ 16 → t.after.p < 2 ^ 16

-- two translations of one gateway, protocol, destination and q have one translated port
abbrev pub collide : Translation → Translation → Bool
collide s t = shares t.nat t.after s && (s.after.p == t.after.p)

-- two translations are of one gateway and one header
abbrev pub same_before : Translation → Translation → Bool
same_before s t = (s.nat.0 == t.nat.0) && same_header s.before t.before

-- what NAT gateways keep in order: each is a translation, of a header that no other translates, to a
-- port that no other has
-- there; and at most 55,000 share a gateway, protocol, destination and q
pub record IsBook (ts : List Translation) : Type 0 where
  pub translations : AllByRecursion IsTranslation ts
  pub once : IsDistinct same_before ts
  pub apart : IsDistinct collide ts
  pub few : (n : NatNo) (h : Header) → count_by (shares n h) ts ≤ 55000

-- ---- laws

-- while not all 64,512 ports from 1,024 on are taken, the port that is given isn't
abbrev pub FreePortIsFree : Type 0
FreePortIsFree =
    (ts : List Translation) (n : NatNo) (h : Header) → h.p < 2 ^ 16 → count_by (shares n h) ts < 64512
    → is_taken ts n h (free_port (is_taken ts n h) (first_port h.p)) ≡ false

-- nothing is in order
abbrev pub NothingIsInOrder : Type 0
NothingIsInOrder = IsBook []

-- a step keeps what the NAT gateways keep in order
abbrev pub StepKeepsBook : Type 0
StepKeepsBook =
    (d : Description) (appliances : Appliances) (label : Label) (m : Moment) → m.header.p < 2 ^ 16
    → IsBook m.nats → let s = step_of d appliances label m in IsBook s.nats

-- an answer to a translated open becomes the answer to that open as it was before
abbrev pub AnswerFindsItsOpen : Type 0
AnswerFindsItsOpen =
    (ts : List Translation) (t : Translation) (r : Header) → IsBook ts → Contains ts t
    → reply_of t.after ≡ Some r → inward ts t.nat r ≡ reply_of t.before

-- an open that a gateway has translated before gets the same translation, and nothing is added
abbrev pub KnownOpenIsReused : Type 0
KnownOpenIsReused =
    (d : Description) (appliances : Appliances) (n : NatNo) (h : Header) (conns : List Connection) (nats : List Translation) (t : Translation)
    → is_translatable h.proto ≡ true → translation_of nats n h ≡ Some t
    → let s = step_of d appliances labels.Opening (record { place = places.NatOut n; header = h; conns = conns; nats = nats }) in
    (s.next ≡ from_nat d n t.after) × (s.nats ≡ nats)

-- another one is stopped where 55,000 translations share the gateway, its protocol, destination and q
abbrev pub FullGatewayStops : Type 0
FullGatewayStops =
    (d : Description) (appliances : Appliances) (n : NatNo) (h : Header) (conns : List Connection) (nats : List Translation)
    → is_translatable h.proto ≡ true → translation_of nats n h ≡ None → 55000 ≤ count_by (shares n h) nats
    → let s = step_of d appliances labels.Opening (record { place = places.NatOut n; header = h; conns = conns; nats = nats }) in
    s.next ≡ stop (stops.NatFull n)

-- and is translated where fewer do
abbrev pub RoomyGatewayTranslates : Type 0
RoomyGatewayTranslates =
    (d : Description) (appliances : Appliances) (n : NatNo) (h : Header) (conns : List Connection) (nats : List Translation)
    → is_translatable h.proto ≡ true → translation_of nats n h ≡ None → count_by (shares n h) nats < 55000
    → let s = step_of d appliances labels.Opening (record { place = places.NatOut n; header = h; conns = conns; nats = nats }) in
    let row = nat_at d n in
    let t = new_translation nats n (own_address row.life) h in
    (s.next ≡ from_nat d n t.after) × (s.nats ≡ nats ++ t ∷ [])

-- what a gateway gives back is an answer to an open that it sent out
abbrev pub InwardAnswersOpens : Type 0
InwardAnswersOpens =
    (ts : List Translation) (n : NatNo) (r k : Header) → inward ts n r ≡ Some k
    → (t : Translation) × Contains ts t × (t.nat ≡ n) × (reply_of t.after ≡ Some r)
    × (reply_of t.before ≡ Some k)
