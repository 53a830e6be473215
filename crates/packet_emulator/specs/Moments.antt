-- A packet at a place, by what the network remembers.
use Rattle.std.specs.Prelude.{List}
use Rattle.vpc_laws.specs.Types.{Header, Place}
use Rattle.vpc_model.specs.Connections.{Connection}
use Rattle.vpc_model.specs.Nat.{Translation}
use Rattle.vpc_model.specs.Step.Words.{Moment}

abbrev pub at_place : Place → Header → List Connection → List Translation → Moment
at_place place header conns nats = record { place = place; header = header; conns = conns; nats = nats }
