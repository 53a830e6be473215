use Rattle.unused_rules.proofs.Chunking.{rule_decides}
use Rattle.unused_rules.proofs.judging.needed_at.Goals as goal

pub returns-then-is_of : goal.returns-then-is_of
returns-then-is_of g c =
    rule_decides c.args.base.now.fabric.now c.args.idle.now c.args.rule.now c.args.base.now.query.now (c.is_of.ensures c.if-is_of.true) c.requires.idle
