-- The walk of a packet: at most 64 places, none twice (the limit and the rule on places are this project's profile).
use Rattle.std.specs.List.{list_any}
use Rattle.std.specs.Prelude.{◌==◌, ◌&&◌, ◌++◌, ◌∷◌, [], if◌then◌else◌, Bool, List, false, suc, true, zero, ℕ}
use Rattle.vpc_model.specs.Types.{Came, Description, EnterBy, Header, Hop, Label, Outcome, Place, Stop}
use Rattle.vpc_model.specs.declared.places.Came.TheVariants as from
use Rattle.vpc_model.specs.declared.outcomes.Outcome.TheVariants as outcomes
use Rattle.vpc_model.specs.declared.places.Place.TheVariants as places
use Rattle.vpc_model.specs.declared.stops.Stop.TheVariants as stops
use Rattle.vpc_model.specs.declared.places.EnterBy.TheVariants as through
use Rattle.vpc_model.specs.Appliances.{Appliances}
use Rattle.vpc_model.specs.Connections.{Connection}
use Rattle.vpc_model.specs.Nat.{Translation}
use Rattle.vpc_model.specs.Step.{step_of}
use Rattle.vpc_model.specs.Step.Words.{Moment, Next, arrive, go, stop}

-- two routers were reached in the same way: from one host, one NAT gateway or one attachment (profile)
abbrev pub same_came : Came → Came → Bool
same_came (from.Host i) (from.Host j) = i.0 == j.0
same_came (from.Nat n) (from.Nat o) = n.0 == o.0
same_came (from.Transit a) (from.Transit b) = a.0 == b.0
same_came (from.Firewall e) (from.Firewall f) = e.0 == f.0
same_came _ _ = false

-- entered by the same gateway, peering or network (profile)
abbrev pub same_enter : EnterBy → EnterBy → Bool
same_enter through.Gateway through.Gateway = true
same_enter (through.Peering x) (through.Peering y) = x.0 == y.0
same_enter (through.Far k) (through.Far l) = k.0 == l.0
same_enter _ _ = false

-- two places are one: of one kind, with the same numbers, and a router reached in the same way (profile)
abbrev pub same_place : Place → Place → Bool
same_place (places.OutOf i) (places.OutOf j) = i.0 == j.0
same_place (places.Router s c) (places.Router t e) = (s.0 == t.0) && same_came c e
same_place (places.Enter v b) (places.Enter w c) = (v.0 == w.0) && same_enter b c
same_place (places.Into i) (places.Into j) = i.0 == j.0
same_place (places.IgwOut v) (places.IgwOut w) = v.0 == w.0
same_place places.Internet places.Internet = true
same_place (places.IgwIn v) (places.IgwIn w) = v.0 == w.0
same_place (places.NatOut n) (places.NatOut o) = n.0 == o.0
same_place (places.NatIn n) (places.NatIn o) = n.0 == o.0
same_place (places.Peer x v) (places.Peer y w) = (x.0 == y.0) && (v.0 == w.0)
same_place (places.Tgw a s) (places.Tgw b t) = (a.0 == b.0) && (s.0 == t.0)
same_place (places.TgwLeave a s) (places.TgwLeave b t) = (a.0 == b.0) && (s.0 == t.0)
same_place (places.FarOut k) (places.FarOut l) = k.0 == l.0
same_place (places.FarIn k) (places.FarIn l) = k.0 == l.0
same_place (places.Inspect e) (places.Inspect f) = e.0 == f.0
same_place _ _ = false

-- the place is among the hops (profile)
abbrev pub is_visited : List Hop → Place → Bool
is_visited hops p = list_any (λ h. same_place h.place p) hops

-- the hops of a walk, how it ends, and what the network remembers after its last step
pub record Walk : Type 0 where
  pub hops : List Hop
  pub outcome : Outcome
  pub conns : List Connection
  pub nats : List Translation

-- a walk that ends so
abbrev pub ended : List Hop → Outcome → List Connection → List Translation → Walk
ended hops outcome conns nats = record { hops = hops; outcome = outcome; conns = conns; nats = nats }

-- a walk that doesn't go on to the next place: it was there, or it has come too far (profile)
abbrev pub turned_back : List Hop → Place → Stop
turned_back hops p = if is_visited hops p then stops.Loop p else stops.TooFar p

-- the walk with these hops behind it, the last of which has this header, and n more places allowed, by what comes next (profile)
abbrev pub walk_on : Description → Appliances → Label → ℕ → List Hop → Header → Next → List Connection → List Translation → Walk
walk_on d appliances label n hops h (arrive end) conns nats = ended hops (outcomes.Arrived end h) conns nats
walk_on d appliances label n hops h (stop s) conns nats = ended hops (outcomes.Stopped s) conns nats
walk_on d appliances label zero hops h (go p k) conns nats = ended hops (outcomes.Stopped (turned_back hops p)) conns nats
walk_on d appliances label (suc n) hops h (go p k) conns nats =
    if is_visited hops p then ended hops (outcomes.Stopped (stops.Loop p)) conns nats
    else (let s = step_of d appliances label (record { place = p; header = k; conns = conns; nats = nats }) in
    walk_on d appliances label n (hops ++ record { place = p; header = k; by = s.by } ∷ []) k s.next s.conns s.nats)

-- the walk of a packet from a place (profile)
abbrev pub walk_of : Description → Appliances → Label → Moment → Walk
walk_of d appliances label m =
    let s = step_of d appliances label m in
    walk_on d appliances label 63 (record { place = m.place; header = m.header; by = s.by } ∷ []) m.header s.next s.conns s.nats
