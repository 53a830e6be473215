use Rattle.unused_rules.proofs.Concerning.{kept_of}
use Rattle.unused_rules.proofs.concerned.kept_filter.Goals as goal

pub returns-else-has_nats : goal.returns-else-has_nats
returns-else-has_nats c = kept_of c.args.d.now c.args.rule.now c.filter_of.result c.unless_all.result c.filter_of.ensures c.unless_all.ensures (c.has_nats.ensures c.if-has_nats.false)
