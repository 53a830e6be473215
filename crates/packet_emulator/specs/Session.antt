-- What the network remembers between packets.
use Rattle.std.specs.Prelude.{List}
use Rattle.vpc_model.specs.Connections.{Connection}
use Rattle.vpc_model.specs.Nat.{Translation}

-- tracked connections and translations, each in the order in which it was added
pub record Remembered : Type 0 where
  pub conns : List Connection
  pub nats : List Translation
