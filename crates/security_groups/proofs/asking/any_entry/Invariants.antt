use Rattle.std.proofs.Common.{◌≡◌, drop}
use Rattle.std.specs.List.{list_any}
use Rattle.security_groups.specs.Rules.{has_entry}
use Rattle.security_groups.proofs.asking.any_entry.Given as goal

abbrev pub invariant-loop-list : goal.invariant-loop-list
invariant-loop-list l = list_any (has_entry l.lists l.a) (drop l.list-index l.named) ≡ list_any (has_entry l.lists l.a) l.named
