use Rattle.std.proofs.Common.{[], arith, slice_index_or}
use Rattle.security_groups.proofs.RuleRows.{rules-next}
use Rattle.security_groups.proofs.building.rules_of.Goals as goal

pub loop-k-preserved : goal.loop-k-preserved
loop-k-preserved c =
    rules-next c.args.n.now c.args.dir (slice_index_or c.args.named.now.naming.vpcs.ids c.args.vpc []) c.args.permissions.now c.loop-k.k c.index-permissions-k.result c.in_ok-rule_of.field-0 c.loop-k.rules.items c.push.new.self.items (omega arith) c.index-permissions-k.is
    c.loop-k.invariant c.in_ok-rule_of.ensures c.in_ok-push.ensures.items
