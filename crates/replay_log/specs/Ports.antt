-- In the replay of any list of events no two translations share a port.
use Rattle.std.specs.Prelude.{◌<◌, ◌^◌, All, List}
use Rattle.replay_laws.specs.Interleaved.{PortsAreApart}
use Rattle.vpc_laws.specs.Types.{Description, Event}
use Rattle.vpc_model.specs.Appliances.{Appliances}
use Rattle.vpc_model.specs.Replay.{walks_of}
use Rattle.vpc_model.specs.Walk.{Walk}

-- the source port fits its field
abbrev pub HasPort : Event → Type 0
HasPort e = let h = e.header in h.p < 2 ^ 16

-- after whichever event, no two translations of one gateway, protocol, destination and destination port have one source port
abbrev pub PortsStayApart : Description → Appliances → List Event → Type 0
PortsStayApart d appliances events = All (λ (w : Walk). PortsAreApart w.nats) (walks_of d appliances events)

-- so it is for every list of events, in every network
abbrev pub AllPortsStayApart : Type 0
AllPortsStayApart = (d : Description) (appliances : Appliances) (events : List Event) → All HasPort events → PortsStayApart d appliances events
