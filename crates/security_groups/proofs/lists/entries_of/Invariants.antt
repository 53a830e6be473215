use Rattle.std.proofs.Common.{take}
use Rattle.std.specs.List.{AllZip}
use Rattle.security_groups.specs.Lists.{HasEntriesOf}
use Rattle.security_groups.proofs.lists.entries_of.Given as goal

abbrev pub invariant-loop-list : goal.invariant-loop-list
invariant-loop-list l = AllZip HasEntriesOf (take l.list-index l.lists) l.entries.items
