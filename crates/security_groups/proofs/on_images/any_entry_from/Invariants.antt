use Rattle.std.proofs.Common.{false, take}
use Rattle.std.specs.List.{list_any}
use Rattle.security_groups.specs.Rules.{has_entry}
use Rattle.security_groups.specs.Dividing.{IsStretchOf}
use Rattle.security_groups.proofs.AskingOn.{DivideEntries}
use Rattle.security_groups.proofs.on_images.any_entry_from.Given as goal

abbrev pub invariant-loop-list : goal.invariant-loop-list
invariant-loop-list l = IsStretchOf (DivideEntries l.lists l.named) (λ b. list_any (has_entry l.lists b) (take l.list-index l.named)) l.address (l.last, false)
