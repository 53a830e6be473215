use Rattle.std.proofs.Common.{arith}
use Rattle.security_groups.proofs.SetLemmas.{further-all, further-next}
use Rattle.security_groups.proofs.building.rule_sets.Goals as goal

pub loop-k-preserved : goal.loop-k-preserved
loop-k-preserved c =
    let many = c.len-k-end.ensures in
    further-next c.args.n.now c.args.named.now.naming.vpcs.ids c.args.further.now c.loop-k.sets.items c.push.new.self.items c.loop-k.k c.at-group.result c.in_ok-rules_in.field-0 (omega arith) c.at-group.ensures c.loop-k.invariant
    c.in_ok-rules_in.ensures c.in_ok-push.ensures.items

pub returns : goal.returns
returns c =
    let many = c.len-k-end.ensures in
    further-all c.args.n.now c.args.named.now.naming.vpcs.ids c.args.further.now c.loop-k.sets.items c.loop-k.k c.loop-k.invariant (omega arith)
