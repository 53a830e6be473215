use Rattle.unused_rules.proofs.Concerning.{decides_nothing}
use Rattle.unused_rules.proofs.judging.needed_by.Goals as goal

pub returns-then-is_empty : goal.returns-then-is_empty
returns-then-is_empty g c =
    decides_nothing c.args.base.now.fabric.now c.args.rule.now c.args.base.now.query.now c.concerned-parts.result c.concerned-parts.ensures (c.is_empty.ensures c.if-is_empty.true)
