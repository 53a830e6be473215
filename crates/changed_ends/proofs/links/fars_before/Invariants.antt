use Rattle.std.proofs.Common.{◌≡◌, ◌++◌, drop}
use Rattle.changed_ends.specs.Links.{fars_before}
use Rattle.changed_ends.proofs.links.fars_before.Given as goal

abbrev pub invariant-loop-start : goal.invariant-loop-start
invariant-loop-start l = l.links.items ++ fars_before (drop l.start-index l.starts) ≡ fars_before l.starts
