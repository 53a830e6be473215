use Rattle.address_sets.proofs.Stretches.{HaveEnded}
use Rattle.edge_gateways.proofs.internet.stretch.Given as goal

abbrev pub invariant-loop-run : goal.invariant-loop-run
invariant-loop-run l = HaveEnded l.a l.runs l.run-index
