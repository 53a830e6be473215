use Rattle.std.proofs.Common.{rules}
use Rattle.vpc_model.specs.Nat.{is_taken}
use Rattle.nat_gateway.proofs.Lists.{free_here, free_later}
use Rattle.nat_gateway.proofs.small.first_free.Goals as goal

pub returns-then-not-is_taken : goal.returns-then-not-is_taken
returns-then-not-is_taken c = free_here (is_taken c.args.entries.now c.args.nat c.args.h.now) c.loop-port.port c.args.end c.is_taken.result _ c.loop-port-test.true c.loop-port.invariant c.is_taken.ensures (search rules)

pub loop-port-preserved : goal.loop-port-preserved
loop-port-preserved c = free_later (is_taken c.args.entries.now c.args.nat c.args.h.now) c.loop-port.port c.args.end c.is_taken.result _ c.loop-port-test.true c.loop-port.invariant c.is_taken.ensures (search rules)
