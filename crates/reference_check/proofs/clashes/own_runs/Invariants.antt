use Rattle.std.proofs.Common.{◌++◌, ◌≡◌, map, take}
use Rattle.address_sets.specs.Runs.{run_of}
use Rattle.reference_check.specs.Claimed.{run_at}
use Rattle.reference_check.proofs.clashes.own_runs.Given as goal

abbrev pub invariant-loop-address : goal.invariant-loop-address
invariant-loop-address l = l.runs.items ≡ map (λ x. run_at x.0) (take l.address-index l.addresses)

abbrev pub invariant-loop-block : goal.invariant-loop-block
invariant-loop-block l = l.runs.items ≡ map (λ x. run_at x.0) l.addresses ++ map run_of (take l.block-index l.blocks)
