-- A sink in memory as plain data.
use Rattle.std.specs.Prelude.{ℕ, List, Bool, nat_eq, nat_le, ◌||◌, ◌++◌, ◌-◌, min, length, take, if◌then◌else◌}
use Rattle.std.specs.List.{list_any}
use Rattle.vpc_io.specs.Rose.{next_count}

-- what it holds, the numbers of the calls that fail, the longest piece and the room, in bytes, and its counts of calls and of faults so far
pub record MemorySinkState : Type 0 where
  pub held : List ℕ
  pub failing : List ℕ
  pub piece : ℕ
  pub room : ℕ
  pub calls : ℕ
  pub faults : ℕ

-- the next call fails: its number is among those that fail, or no room is left
abbrev pub write_fails : MemorySinkState → Bool
write_fails sink = list_any (λ n. nat_eq n (next_count sink.calls)) sink.failing || nat_le sink.room (length sink.held)

-- how many bytes of a piece of this length are taken, where the call doesn't fail
abbrev pub taken_len : MemorySinkState → ℕ → ℕ
taken_len sink len = min (min len sink.piece) (sink.room - length sink.held)

-- the state after the next call: the call is counted, and either a fault is or bytes are added
abbrev pub state_after_write : MemorySinkState → List ℕ → MemorySinkState
state_after_write sink piece = if write_fails sink
    then record sink { calls = next_count sink.calls; faults = next_count sink.faults }
    else record sink { calls = next_count sink.calls; held = sink.held ++ take (taken_len sink (length piece)) piece }
