use Rattle.std.proofs.Common.{◌≡◌, ◌++◌, drop, map, take}
use Rattle.box_steps.proofs.moment.narrow_entries.Given as goal
use Rattle.box_steps.specs.Moments.{entry_over}

abbrev pub invariant-loop-e : goal.invariant-loop-e
invariant-loop-e l = l.entries ≡ map (entry_over l.body) (take l.e-index l.initial.entries) ++ drop l.e-index l.initial.entries
