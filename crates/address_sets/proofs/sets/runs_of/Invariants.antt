use Rattle.std.proofs.Common.{◌≡◌, map, take}
use Rattle.address_sets.specs.Runs.{run_of}
use Rattle.address_sets.proofs.sets.runs_of.Given as goal

abbrev pub invariant-loop-block : goal.invariant-loop-block
invariant-loop-block l = l.runs.items ≡ map run_of (take l.block-index l.blocks)
