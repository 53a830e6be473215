-- What whole walks keep and leave.
use Rattle.std.specs.Prelude.{◌≡◌, ◌≤◌, ◌==◌, ◌&&◌, ◌++◌, Bool, ◌<◌, ◌^◌, ◌⊎◌, ◌↔◌, ◌∷◌, [], Contains, List, Some, false, length, map, true}
use Rattle.std.specs.List.{IsDistinct}
use Rattle.vpc_laws.specs.Types.{Description, Header, Hop, Label, Outcome, Place}
use Rattle.vpc_base.specs.declared.headers.Label.TheVariants as labels
use Rattle.vpc_model.specs.declared.places.Place.TheVariants as places
use Rattle.vpc_model.specs.declared.outcomes.Outcome.TheVariants as outcomes
use Rattle.vpc_model.specs.declared.stops.Stop.TheVariants as stops
use Rattle.vpc_base.specs.Dir.{same_dir}
use Rattle.vpc_model.specs.Appliances.{Appliances}
use Rattle.vpc_model.specs.Connections.{Connection}
use Rattle.vpc_model.specs.Nat.{Translation}
use Rattle.vpc_model.specs.Step.{step_of}
use Rattle.vpc_model.specs.Step.Words.{Moment, Next, arrive, go, stop}
use Rattle.vpc_model.specs.Walk.{Walk, is_visited, same_place, walk_of}
use Rattle.vpc_laws.specs.Step.{Begins, own_connection}
use Rattle.vpc_laws.specs.Translations.{IsBook}

abbrev pub places_of : List Hop → List Place
places_of hops = map (λ h. h.place) hops

-- a walk has 1 to 64 places, and none twice
abbrev pub WalkIsShort : Type 0
WalkIsShort =
    (d : Description) (appliances : Appliances) (label : Label) (m : Moment)
    → let w = walk_of d appliances label m in (1 ≤ length w.hops) × (length w.hops ≤ 64)

abbrev pub NoPlaceTwice : Type 0
NoPlaceTwice =
    (d : Description) (appliances : Appliances) (label : Label) (m : Moment)
    → let w = walk_of d appliances label m in IsDistinct same_place (places_of w.hops)

-- what a walk leaves begins with what was there before it
abbrev pub WalkKeeps : Type 0
WalkKeeps =
    (d : Description) (appliances : Appliances) (label : Label) (m : Moment)
    → let w = walk_of d appliances label m in Begins m.conns w.conns × Begins m.nats w.nats

-- the walk of an answer leaves what was there
abbrev pub AnswerLeavesAll : Type 0
AnswerLeavesAll =
    (d : Description) (appliances : Appliances) (m : Moment)
    → let w = walk_of d appliances labels.Answer m in (w.conns ≡ m.conns) × (w.nats ≡ m.nats)

-- each connection that a walk leaves was there before, or is that of an open at one of its places
abbrev pub LeftConnectionsAreOwn : Type 0
LeftConnectionsAreOwn =
    (d : Description) (appliances : Appliances) (label : Label) (m : Moment) (c : Connection) →
    let w = walk_of d appliances label m in
    Contains w.conns c → Contains m.conns c
    ⊎ ((label ≡ labels.Opening) × ((h : Hop) × (Contains w.hops h × (own_connection h.place h.header ≡ Some c))))

-- each translation that a walk leaves was there before, or is of an open at one of its places, its gateway
abbrev pub LeftTranslationsAreOwn : Type 0
LeftTranslationsAreOwn =
    (d : Description) (appliances : Appliances) (label : Label) (m : Moment) (t : Translation) →
    let w = walk_of d appliances label m in
    Contains w.nats t → Contains m.nats t
    ⊎ ((label ≡ labels.Opening) × ((h : Hop) × (Contains w.hops h × ((h.place ≡ places.NatOut t.nat) × (t.before ≡ h.header)))))

-- a walk keeps what the NAT gateways keep in order
abbrev pub WalkKeepsBook : Type 0
WalkKeepsBook =
    (d : Description) (appliances : Appliances) (label : Label) (m : Moment) → m.header.p < 2 ^ 16
    → IsBook m.nats → let w = walk_of d appliances label m in IsBook w.nats

-- ---- what a walk is

-- the hop of a packet at a place
abbrev pub hop_of : Description → Appliances → Label → Moment → Hop
hop_of d appliances label m =
    let s = step_of d appliances label m in record { place = m.place; header = m.header; by = s.by }

-- the second moment is where the step of the first leads, with what is remembered after it
pub record IsNext (d : Description) (appliances : Appliances) (label : Label) (m n : Moment) : Type 0 where
  pub goes : let s = step_of d appliances label m in s.next ≡ go n.place n.header
  pub conns : let s = step_of d appliances label m in n.conns ≡ s.conns
  pub nats : let s = step_of d appliances label m in n.nats ≡ s.nats

-- each moment is the next of the one before it
abbrev pub Follows : Description → Appliances → Label → Moment → List Moment → Type 0
Follows d appliances label m [] = Unit {0}
Follows d appliances label m (n ∷ rest) = IsNext d appliances label m n × Follows d appliances label n rest

-- the last of a moment and those after it
abbrev pub last_moment : Moment → List Moment → Moment
last_moment m [] = m
last_moment m (n ∷ rest) = last_moment n rest

-- how a walk with these hops ends, the last of which has this header, by what its last step says: it
-- arrives or is stopped there;
-- or the next place was there before, or it is new and there are 64
abbrev pub EndsSo : List Hop → Header → Next → Outcome → Type 0
EndsSo hops h (arrive end) outcome = outcome ≡ outcomes.Arrived end h
EndsSo hops h (stop s) outcome = outcome ≡ outcomes.Stopped s
EndsSo hops h (go p k) outcome =
    ((is_visited hops p ≡ true) × (outcome ≡ outcomes.Stopped (stops.Loop p)))
    ⊎ ((is_visited hops p ≡ false) × ((length hops ≡ 64) × (outcome ≡ outcomes.Stopped (stops.TooFar p))))

-- a walk from a moment: the moments after it, each by the step of the one before; its hops are theirs,
-- its end is that of the last
-- step, and so is what it leaves
pub record IsWalk (d : Description) (appliances : Appliances) (label : Label) (m : Moment) (w : Walk) : Type 0 where
  pub rest : List Moment
  pub follows : Follows d appliances label m rest
  pub hops : w.hops ≡ map (hop_of d appliances label) (m ∷ rest)
  pub ends : let last = last_moment m rest in let s = step_of d appliances label last in
      EndsSo w.hops last.header s.next w.outcome
  pub conns : let s = step_of d appliances label (last_moment m rest) in w.conns ≡ s.conns
  pub nats : let s = step_of d appliances label (last_moment m rest) in w.nats ≡ s.nats

-- so walks are
abbrev pub WalksAreOfSteps : Type 0
WalksAreOfSteps =
    (d : Description) (appliances : Appliances) (label : Label) (m : Moment)
    → IsWalk d appliances label m (walk_of d appliances label m)

-- a walk is stopped by a loop exactly where its last step goes on to a place where it was
abbrev pub LoopsAreReturns : Type 0
LoopsAreReturns =
    (d : Description) (appliances : Appliances) (label : Label) (m : Moment) (w : Walk) (i : IsWalk d appliances label m w) (p : Place)
    → let s = step_of d appliances label (last_moment m i.rest) in
    (w.outcome ≡ outcomes.Stopped (stops.Loop p)) ↔ (((k : Header) × (s.next ≡ go p k)) × (is_visited w.hops p ≡ true))

-- and by its length exactly where it has 64 places and its last step goes on to a new one
abbrev pub FarWalksAreLong : Type 0
FarWalksAreLong =
    (d : Description) (appliances : Appliances) (label : Label) (m : Moment) (w : Walk) (i : IsWalk d appliances label m w) (p : Place)
    → let s = step_of d appliances label (last_moment m i.rest) in
    (w.outcome ≡ outcomes.Stopped (stops.TooFar p))
    ↔ (((k : Header) × (s.next ≡ go p k)) × ((is_visited w.hops p ≡ false) × (length w.hops ≡ 64)))

-- ---- what a walk adds

-- the same interface and direction
abbrev pub same_door : Connection → Connection → Bool
same_door a b = (a.eni.0 == b.eni.0) && same_dir a.dir b.dir

-- the same gateway
abbrev pub same_gateway : Translation → Translation → Bool
same_gateway s t = s.nat.0 == t.nat.0

-- at most 64 items are added, no two of them alike
pub record AddsFew {X : Type 0} (alike : X → X → Bool) (before after : List X) : Type 0 where
  pub more : List X
  pub is : after ≡ before ++ more
  pub few : length more ≤ 64
  pub apart : IsDistinct alike more

-- a walk adds at most 64 connections, no two of one interface and direction, and at most 64
-- translations, no two of one gateway
abbrev pub WalksAddFew : Type 0
WalksAddFew =
    (d : Description) (appliances : Appliances) (label : Label) (m : Moment)
    → let w = walk_of d appliances label m in AddsFew same_door m.conns w.conns
    × AddsFew same_gateway m.nats w.nats
