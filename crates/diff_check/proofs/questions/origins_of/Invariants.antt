use Rattle.std.proofs.Common.{◌≡◌, map, take}
use Rattle.diff_check.specs.Starts.{origin_from}
use Rattle.diff_check.proofs.questions.origins_of.Given as goal

abbrev pub invariant-loop-start : goal.invariant-loop-start
invariant-loop-start l = l.origins.items ≡ map (origin_from l.compared l.targets) (take l.start-index l.starts)
