-- Lists of packets, each of which meets what the ones before it left (profile: packets come one after the other).
use Rattle.std.specs.Prelude.{◌∷◌, [], List, map}
use Rattle.vpc_model.specs.Types.{Description, Event, Outcome}
use Rattle.vpc_model.specs.Appliances.{Appliances}
use Rattle.vpc_model.specs.Connections.{Connection}
use Rattle.vpc_model.specs.Nat.{Translation}
use Rattle.vpc_model.specs.Place.{start_of}
use Rattle.vpc_model.specs.Step.Words.{Moment}
use Rattle.vpc_model.specs.Walk.{Walk, walk_of}

-- an event as a packet at its first place, with what the network remembers
abbrev pub moment_of : Event → List Connection → List Translation → Moment
moment_of e conns nats = record { place = start_of e.start; header = e.header; conns = conns; nats = nats }

-- the walks of events, the first with these connections and translations, each later one with what the one before left
abbrev pub walks_after : Description → Appliances → List Connection → List Translation → List Event → List Walk
walks_after d appliances conns nats [] = []
walks_after d appliances conns nats (e ∷ es) =
    let w = walk_of d appliances e.label (moment_of e conns nats) in
    w ∷ walks_after d appliances w.conns w.nats es

-- the walks of events where nothing is remembered before the first
abbrev pub walks_of : Description → Appliances → List Event → List Walk
walks_of d appliances events = walks_after d appliances [] [] events

-- how the packets of events end
abbrev pub replay_of : Description → Appliances → List Event → List Outcome
replay_of d appliances events = map (λ w. w.outcome) (walks_of d appliances events)
