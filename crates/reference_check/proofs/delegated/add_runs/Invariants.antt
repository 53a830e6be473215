use Rattle.std.proofs.Common.{◌++◌, ◌<◌, ◌≡◌, ◌^◌, All, map, take}
use Rattle.reference_check.specs.Blocks.{key_run}
use Rattle.reference_check.proofs.delegated.add_runs.Given as goal

abbrev pub invariant-loop-run : goal.invariant-loop-run
invariant-loop-run l = record {
  added : l.runs.items ≡ l.fn.runs.items ++ map (key_run l.v l.number) (take l.run-index l.addresses);
  fit : All (λ r. r.last < 2 ^ 32) (take l.run-index l.addresses);
}
