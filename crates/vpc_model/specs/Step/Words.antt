-- A packet at a place, and what comes next.
use Rattle.std.specs.Prelude.{List, None, Option, Some}
use Rattle.vpc_model.specs.Types.{By, End, Header, Place, Stop}
use Rattle.vpc_model.specs.declared.outcomes.By.TheVariants as bys
use Rattle.vpc_model.specs.Connections.{Connection}
use Rattle.vpc_model.specs.Nat.{Translation}

-- a packet at a place, with what the network remembers
pub record Moment : Type 0 where
  pub place : Place
  pub header : Header
  pub conns : List Connection
  pub nats : List Translation

-- what comes next: a place and the header that comes there, an arrival, or a stop
pub data Next : Type 0 where
  go : Place → Header → Next
  arrive : End → Next
  stop : Stop → Next

-- what comes next, by what the packet passed groups, and what the network remembers after it
pub record Step : Type 0 where
  pub next : Next
  pub by : By
  pub conns : List Connection
  pub nats : List Translation

-- a step that asks no groups and remembers nothing new
abbrev pub plain : Moment → Next → Step
plain m next = record { next = next; by = bys.Nothing; conns = m.conns; nats = m.nats }

-- what comes next, unless something stops the packet
abbrev pub unless_stopped : Option Stop → Next → Next
unless_stopped None next = next
unless_stopped (Some s) next = stop s
