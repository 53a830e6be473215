use Rattle.std.proofs.Common.{◌≡◌, take}
use Rattle.changed_ends.specs.Asked.{boxes_between}
use Rattle.changed_ends.proofs.boxes.boxes_between.Given as goal

abbrev pub invariant-loop-src : goal.invariant-loop-src
invariant-loop-src l = l.boxes.items ≡ boxes_between l.pairs l.targets (take l.src-index l.sources)
