use Rattle.std.proofs.Common.{◌≡◌, map, take}
use Rattle.fabric.specs.Targets.{target_number}
use Rattle.fabric.proofs.targets.targets_of.Given as goal

abbrev pub invariant-loop-route : goal.invariant-loop-route
invariant-loop-route l = l.numbers.items ≡ map (λ r. target_number l.n r.target) (take l.route-index l.table.routes)
