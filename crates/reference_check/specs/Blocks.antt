-- Delegated blocks, and whose they are.
use Rattle.std.specs.List.{flat_map, list_any}
use Rattle.std.specs.Prelude.{◌&&◌, ◌+◌, ◌++◌, ◌<◌, ◌≡◌, ◌^◌, All, Bool, Contains, List, bytes_eq, map, position, true, ℕ}
use Rattle.number_tables.specs.Keys as keys
use Rattle.number_tables.specs.Runs.{value_of}
use Rattle.number_tables.specs.Runs as tables
use Rattle.number_tables.specs.declared.runs.KeyRun.{KeyRun}
use Rattle.prefix_text.specs.Block.{holds}
use Rattle.address_sets.specs.Runs.{AreRuns, is_in}
use Rattle.address_sets.specs.declared.sets.Run.{Run}
use Rattle.vpc_model.specs.Cuts.{block_cuts}
use Rattle.vpc_model.specs.Lookup.{has_vpc, vpc_no, vpc_of_interface}
use Rattle.vpc_model.specs.declared.rows.Description.{Description}
use Rattle.vpc_model.specs.declared.rows.Interface.{Interface}
use Rattle.reference_check.specs.Keys.{key_of}

-- the interface has the address in a block, in the VPC with this id
abbrev pub is_delegated : Description → List ℕ → ℕ → Interface → Bool
is_delegated d vpc a e = list_any (holds a) e.prefixes && bytes_eq (vpc_of_interface d e) vpc

-- the values of keys tell the first of some interfaces that has the address in a block
abbrev pub TellBlocks : Description → List Interface → List (KeyRun ℕ) → Type 0
TellBlocks d es runs = (vpc : List ℕ) (a : ℕ) → has_vpc d vpc ≡ true → a < 2 ^ 32 → value_of (key_of d (vpc, a)) runs ≡ position (is_delegated d vpc a) es

-- where the blocks of interfaces begin, and what comes after them
abbrev pub block_ends : List Interface → List ℕ
block_ends es = flat_map (λ e. flat_map block_cuts e.prefixes) es

-- the keys of addresses of one VPC, where a block begins with the first of them and one ends with the last
pub record IsBlockRun (cuts : List ℕ) (run : KeyRun ℕ) : Type 0 where
  pub vpc : ℕ
  pub first : ℕ
  pub last : ℕ
  pub from : run.first ≡ keys.key_of vpc first
  pub to : run.last ≡ keys.key_of vpc last
  pub small : first < 2 ^ 32
  pub fits : last < 2 ^ 32
  pub begins : Contains cuts first
  pub ends : Contains cuts (last + 1)

-- runs of the blocks of some interfaces, of which no two have a key in common
pub record AreBlocks (d : Description) (es : List Interface) (runs : List (KeyRun ℕ)) : Type 0 where
  pub apart : tables.AreApart runs
  pub tell : TellBlocks d es runs
  pub bounds : All (IsBlockRun (block_ends d.interfaces)) runs

-- runs of the blocks of all interfaces
pub record FindBlocks (d : Description) (runs : List (KeyRun ℕ)) : Type 0 where
  pub tell : TellBlocks d d.interfaces runs
  pub bounds : All (IsBlockRun (block_ends d.interfaces)) runs

-- the keys of a run in the VPC with a number, and a value
abbrev pub key_run : ℕ → ℕ → Run → KeyRun ℕ
key_run v n run = record { first = keys.key_of v run.first; last = keys.key_of v run.last; value = n }

-- runs of the interface's blocks were added, which lie apart
pub record AddsBlocks (d : Description) (n : ℕ) (e : Interface) (old new : List (KeyRun ℕ)) : Type 0 where
  pub runs : List Run
  pub apart : AreRuns runs
  pub same : (a : ℕ) → is_in a runs ≡ list_any (holds a) e.prefixes
  pub fit : All (λ r. r.last < 2 ^ 32) runs
  pub added : new ≡ old ++ map (key_run (vpc_no d (vpc_of_interface d e)).0 n) runs
