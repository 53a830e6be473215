use Rattle.std.proofs.Common.{arith}
use Rattle.security_groups.proofs.AlikeLemmas.{twins_next}
use Rattle.security_groups.specs.Alike.{LetsInSame}
use Rattle.security_groups.proofs.alike.twins_of_groups.Goals as goal

pub loop-group-preserved : goal.loop-group-preserved
loop-group-preserved c =
    twins_next (LetsInSame c.args.names.now.one.now c.args.names.now.other.now) c.loop-group.twins.items c.push.new.self.items c.len.result c.twin_of_group-twin.result c.loop-group.invariant
    (omega (arith, c.loop-group.twins.ok.0)) c.twin_of_group-twin.ensures c.in_ok-push.ensures.items
