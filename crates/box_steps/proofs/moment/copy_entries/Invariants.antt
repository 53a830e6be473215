use Rattle.std.proofs.Common.{◌≡◌, take}
use Rattle.box_steps.proofs.moment.copy_entries.Given as goal

abbrev pub invariant-loop-e : goal.invariant-loop-e
invariant-loop-e l = l.into.items ≡ take l.e-index l.entries
