-- A shelf in memory as plain data.
use Rattle.std.specs.Prelude.{ℕ, List, Bool, nat_eq, ◌||◌, is_none, if◌then◌else◌}
use Rattle.std.specs.List.{list_any}
use Rattle.vpc_io.specs.Rose.{next_count}
use Rattle.vpc_io.specs.Shelf.{NamedBytes, bytes_of}

-- its files, the numbers of the calls that fail, and its counts of calls and of faults so far
pub record MemoryShelfState : Type 0 where
  pub files : List NamedBytes
  pub failing : List ℕ
  pub calls : ℕ
  pub faults : ℕ

-- the next call fails at this name: its number is among those that fail, or no file has the name
abbrev pub take_fails : MemoryShelfState → List ℕ → Bool
take_fails shelf name = list_any (λ n. nat_eq n (next_count shelf.calls)) shelf.failing || is_none (bytes_of shelf.files name)

-- the state after the next call: the call is counted, and a fault exactly where it fails
abbrev pub state_after_take : MemoryShelfState → List ℕ → MemoryShelfState
state_after_take shelf name = record shelf { calls = next_count shelf.calls; faults = if take_fails shelf name then next_count shelf.faults else shelf.faults }
