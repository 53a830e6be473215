use Rattle.std.proofs.Common.{◌≡◌, ◌++◌, drop}
use Rattle.changed_ends.specs.Links.{fars_after}
use Rattle.changed_ends.proofs.links.fars_after.Given as goal

abbrev pub invariant-loop-start : goal.invariant-loop-start
invariant-loop-start l = l.links.items ++ fars_after (drop l.start-index l.starts) ≡ fars_after l.starts
