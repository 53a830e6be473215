use Rattle.std.proofs.Common.{◌≡◌, map, take}
use Rattle.reference_check.specs.Attached.{chosen_table}
use Rattle.reference_check.proofs.subnets.choose_tables.Given as goal

abbrev pub invariant-loop-k : goal.invariant-loop-k
invariant-loop-k l = l.chosen.items ≡ map (chosen_table l.d) (take l.k l.d.subnets)
