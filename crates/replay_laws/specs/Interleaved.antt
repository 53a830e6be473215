-- What lets answers through in lists of packets, whatever connections are interleaved in them.
use Rattle.std.specs.Prelude.{◌≡◌, ◌⊎◌, ◌++◌, ◌∷◌, [], Contains, List, Some, zip}
use Rattle.std.specs.List.{IsDistinct}
use Rattle.vpc_laws.specs.Types.{By, Description, EniNo, Event, Header, Hop, NatNo, RuleRef, Stop}
use Rattle.vpc_base.specs.Header.{reply_of}
use Rattle.vpc_base.specs.declared.headers.Dir.TheVariants as dirs
use Rattle.vpc_base.specs.declared.headers.Label.TheVariants as labels
use Rattle.vpc_laws.specs.Translations.{collide}
use Rattle.vpc_model.specs.Appliances.{Appliances}
use Rattle.vpc_model.specs.Groups.{first_rule}
use Rattle.vpc_model.specs.Lookup.{interface_at}
use Rattle.vpc_model.specs.Nat.{Translation}
use Rattle.vpc_model.specs.Replay.{walks_of}
use Rattle.vpc_model.specs.Walk.{Walk}
use Rattle.vpc_model.specs.declared.outcomes.By.TheVariants as bys
use Rattle.vpc_model.specs.declared.outcomes.Outcome.TheVariants as outcomes
use Rattle.vpc_model.specs.declared.places.Place.TheVariants as places
use Rattle.vpc_model.specs.declared.stops.Stop.TheVariants as stops

-- ---- words

-- the event with this walk comes in the replay of the events, after these ones with theirs
pub record Comes (d : Description) (appliances : Appliances) (events : List Event) (earlier : List (Event × Walk)) (e : Event) (w : Walk) : Type 0 where
  pub later : List (Event × Walk)
  pub in_order : zip events (walks_of d appliances events) ≡ earlier ++ (e, w) ∷ later

-- one of these was an open that passed the interface outward with this header, by a rule of its groups
pub record PassedOutward (earlier : List (Event × Walk)) (i : EniNo) (h : Header) : Type 0 where
  pub event : Event
  pub walk : Walk
  pub is_earlier : Contains earlier (event, walk)
  pub opens : event.label ≡ labels.Opening
  pub rule : RuleRef
  pub passed : Contains walk.hops (record { place = places.OutOf i; header = h; by = bys.Rule rule })

-- one of these was an open that the gateway sent out: as translated, its reply is this header, which
-- goes on as the reply of the open as it was before
pub record SentOut (earlier : List (Event × Walk)) (n : NatNo) (h on : Header) : Type 0 where
  pub event : Event
  pub walk : Walk
  pub is_earlier : Contains earlier (event, walk)
  pub opens : event.label ≡ labels.Opening
  pub sent : Hop
  pub came : Contains walk.hops sent
  pub there : sent.place ≡ places.NatOut n
  pub translation : Translation
  pub kept : Contains walk.nats translation
  pub gateway : translation.nat ≡ n
  pub before : translation.before ≡ sent.header
  pub answered : reply_of translation.after ≡ Some h
  pub returned : reply_of translation.before ≡ Some on

-- the hop is the last of these
abbrev pub IsLast : List Hop → Hop → Type 0
IsLast hops hop = (before : List Hop) × (hops ≡ before ++ hop ∷ [])

-- the stops of an interface that a packet comes into: it isn't attached, or checks the destination, or its groups allow nothing
abbrev pub IsStopInto : EniNo → Stop → Type 0
IsStopInto i s = (s ≡ stops.Detached i) ⊎ (s ≡ stops.DestCheck i) ⊎ (s ≡ stops.GroupsIn i)

-- the walk ends at this hop, where the interface stops the packet
pub record IsStoppedInto (i : EniNo) (w : Walk) (hop : Hop) : Type 0 where
  pub last : IsLast w.hops hop
  pub reason : Stop
  pub own : IsStopInto i reason
  pub outcome : w.outcome ≡ outcomes.Stopped reason

-- the hop after this one, if there is one, has this header
abbrev pub GoesOnAs : List Hop → Hop → Header → Type 0
GoesOnAs hops hop on = (before after : List Hop) (next : Hop) → hops ≡ before ++ hop ∷ next ∷ after → next.header ≡ on

-- ---- laws

-- by what an answer passes the groups of an interface inward: the interface has none, a rule allows the
-- answer, or it is the reply of an earlier open that passed the interface outward; or else the interface stops it
abbrev pub IsLetIn : Description → List (Event × Walk) → EniNo → Walk → Hop → By → Type 0
IsLetIn d earlier i w hop bys.Nothing = IsStoppedInto i w hop
IsLetIn d earlier i w hop bys.NoGroups = let e = interface_at d i in e.groups ≡ []
IsLetIn d earlier i w hop (bys.Rule r) = first_rule d (interface_at d i) dirs.Inward hop.header ≡ Some r
IsLetIn d earlier i w hop bys.Tracked = (k : Header) × ((reply_of k ≡ Some hop.header) × PassedOutward earlier i k)

-- in the replay of events each answer is let in so
abbrev pub AnswersAreLetIn : Description → Appliances → List Event → Type 0
AnswersAreLetIn d appliances events =
    (earlier : List (Event × Walk)) (e : Event) (w : Walk) (hop : Hop) (i : EniNo)
    → Comes d appliances events earlier e w → e.label ≡ labels.Answer
    → Contains w.hops hop → hop.place ≡ places.Into i
    → IsLetIn d earlier i w hop hop.by

-- in the replay of events each answer that comes back to a NAT gateway answers an earlier open that the
-- gateway sent out, and goes on as the answer to that open; or else it is stopped there
abbrev pub AnswersAreToOpens : Description → Appliances → List Event → Type 0
AnswersAreToOpens d appliances events =
    (earlier : List (Event × Walk)) (e : Event) (w : Walk) (hop : Hop) (n : NatNo)
    → Comes d appliances events earlier e w → e.label ≡ labels.Answer
    → Contains w.hops hop → hop.place ≡ places.NatIn n
    → (w.outcome ≡ outcomes.Stopped (stops.NatUnsolicited n))
    ⊎ ((on : Header) × (SentOut earlier n hop.header on × GoesOnAs w.hops hop on))

-- no two translations of one gateway, protocol, destination and q have the same port
abbrev pub PortsAreApart : List Translation → Type 0
PortsAreApart nats = IsDistinct collide nats

-- ---- of every list of events

abbrev pub AllAnswersAreLetIn : Type 0
AllAnswersAreLetIn = (d : Description) (appliances : Appliances) (events : List Event) → AnswersAreLetIn d appliances events

abbrev pub AllAnswersAreToOpens : Type 0
AllAnswersAreToOpens = (d : Description) (appliances : Appliances) (events : List Event) → AnswersAreToOpens d appliances events
