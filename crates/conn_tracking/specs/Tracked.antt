-- Tracked connections and their room, and which of them are looked up in order.
use Rattle.std.specs.List.{list_any}
use Rattle.std.specs.Prelude.{◌≡◌, ◌≤◌, List, length, take, ℕ}
use Rattle.vpc_model.specs.Connections.{Connection, same_connection}

-- the connections in the order in which they were added, and how many more fit without memory
pub record Tracked : Type 0 where
  pub conns : List Connection
  pub spare : ℕ

-- the known connections are the first ones of the list, this many
pub record AreFirst (known : List Connection) (count : ℕ) (conns : List Connection) : Type 0 where
  pub within : count ≤ length conns
  pub same : (c : Connection) → list_any (same_connection c) known ≡ list_any (same_connection c) (take count conns)
