-- Each event keeps the translations apart.
use Rattle.std.proofs.Common.{[], ◌∷◌, List}
use Rattle.std.specs.List.{AllByRecursion}
use Rattle.std.proofs.lemmas.List.Elements.{All-from_recursion, recursion_from_All}
use Rattle.replay_laws.specs.Interleaved.{PortsAreApart}
use Rattle.vpc_laws.proofs.Books.{IsBook-nil}
use Rattle.vpc_laws.proofs.Walking.{walk_keeps_book}
use Rattle.vpc_laws.specs.Translations.{IsBook}
use Rattle.vpc_laws.specs.Types.{Description, Event}
use Rattle.vpc_model.specs.Appliances.{Appliances}
use Rattle.vpc_model.specs.Connections.{Connection}
use Rattle.vpc_model.specs.Nat.{Translation}
use Rattle.vpc_model.specs.Replay.{moment_of, walks_after, walks_of}
use Rattle.vpc_model.specs.Walk.{Walk, walk_of}
use Rattle.replay_log.specs.Ports.{AllPortsStayApart, HasPort}

apart_after : (d : Description) (a : Appliances) (conns : List Connection) (nats : List Translation) (events : List Event)
    → AllByRecursion HasPort events → IsBook nats → AllByRecursion (λ (w : Walk). PortsAreApart w.nats) (walks_after d a conns nats events)
apart_after d a conns nats [] fit book = tt
apart_after d a conns nats (e ∷ es) fit book =
    let w = walk_of d a e.label (moment_of e conns nats) in
    let next : IsBook w.nats = walk_keeps_book d a e.label (moment_of e conns nats) fit.0 book in
    (next.apart, apart_after d a w.conns w.nats es fit.1 next)

pub ports_stay_apart : AllPortsStayApart
ports_stay_apart d a events fit =
    All-from_recursion (λ (w : Walk). PortsAreApart w.nats) (walks_of d a events) (apart_after d a [] [] events (recursion_from_All HasPort events fit) IsBook-nil)
