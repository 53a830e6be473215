-- What the network remembers of a request.
use Rattle.std.specs.Prelude.{◌≡◌}
use Rattle.vpc_model.specs.Walk.{Walk}
use Rattle.packet_emulator.specs.declared.verdict.Memory.{Memory}

-- the connections and translations that a walk leaves
pub record IsLeftBy (w : Walk) (m : Memory) : Type 0 where
  pub conns : w.conns ≡ m.conns.conns
  pub nats : w.nats ≡ m.nats.entries
