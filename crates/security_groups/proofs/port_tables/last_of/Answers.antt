use Rattle.std.proofs.Common.{arith}
use Rattle.security_groups.proofs.Runs.{ends-all, ends-next}
use Rattle.security_groups.proofs.port_tables.last_of.Goals as goal
use Rattle.security_groups.proofs.port_tables.last_of.Goals.{then-last-rule, else-last-rule}

pub loop-rule-preserved : goal.loop-rule-preserved
loop-rule-preserved c =
    elim c.if-last-rule.branch [
      | then-last-rule w ↦ ends-next c.args.rules.now c.loop-rule.rule-index c.rule-item.result c.loop-rule.last c.if-last-rule.last (omega arith) c.rule-item.is c.loop-rule.invariant (omega arith) (omega arith)
      | else-last-rule w ↦ ends-next c.args.rules.now c.loop-rule.rule-index c.rule-item.result c.loop-rule.last c.if-last-rule.last (omega arith) c.rule-item.is c.loop-rule.invariant (omega arith) (omega arith)
    ]

pub returns : goal.returns
returns c = ends-all c.args.rules.now c.loop-rule.rule-index c.loop-rule.last c.loop-rule-test.false c.loop-rule.invariant
