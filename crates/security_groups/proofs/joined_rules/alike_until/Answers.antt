use Rattle.std.proofs.Common.{arith}
use Rattle.security_groups.proofs.Joining.{alike-first, alike-next}
use Rattle.security_groups.proofs.joined_rules.alike_until.Goals as goal

pub loop-k-init : goal.loop-k-init
loop-k-init c = alike-first c.args.rules.now c.args.from c.requires

pub loop-k-preserved : goal.loop-k-preserved
loop-k-preserved c =
    alike-next c.args.rules.now c.args.from c.loop-k.k c.index-rules-from.result c.index-rules-k.result c.requires (omega arith) c.index-rules-from.is c.index-rules-k.is
    (c.are_alike.ensures c.if-not-are_alike.false) c.loop-k.invariant
