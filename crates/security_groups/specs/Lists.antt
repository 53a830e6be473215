-- Prefix lists by their numbers (EC2 API, GetManagedPrefixListEntries).
use Rattle.std.specs.List.{list_any}
use Rattle.std.specs.Prelude.{◌≡◌, List, ℕ}
use Rattle.address_sets.specs.Runs.{is_in}
use Rattle.address_sets.specs.declared.sets.Run.{Run}
use Rattle.prefix_text.specs.Block.{holds}
use Rattle.vpc_model.specs.declared.rows.PrefixList.{PrefixList}

-- the set has the addresses of the list's entries
abbrev pub HasEntriesOf : PrefixList → List Run → Type 0
HasEntriesOf l set = (a : ℕ) → is_in a set ≡ list_any (holds a) l.entries
