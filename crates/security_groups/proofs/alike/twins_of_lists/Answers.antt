use Rattle.std.proofs.Common.{arith}
use Rattle.security_groups.proofs.AlikeLemmas.{twins_next}
use Rattle.security_groups.specs.Alike.{IsSameList}
use Rattle.security_groups.proofs.alike.twins_of_lists.Goals as goal

pub loop-list-preserved : goal.loop-list-preserved
loop-list-preserved c =
    twins_next (IsSameList c.args.one.now c.args.other.now) c.loop-list.twins.items c.push.new.self.items c.len.result c.twin_of_list-twin.result c.loop-list.invariant
    (omega (arith, c.loop-list.twins.ok.0)) c.twin_of_list-twin.ensures c.in_ok-push.ensures.items
