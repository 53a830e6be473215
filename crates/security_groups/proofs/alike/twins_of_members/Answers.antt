use Rattle.std.proofs.Common.{arith}
use Rattle.security_groups.proofs.AlikeLemmas.{twins_next}
use Rattle.security_groups.specs.Alike.{HasSameMembers}
use Rattle.security_groups.proofs.alike.twins_of_members.Goals as goal

pub loop-group-preserved : goal.loop-group-preserved
loop-group-preserved c =
    twins_next (HasSameMembers c.args.one.now c.args.other.now) c.loop-group.twins.items c.push.new.self.items c.len.result c.twin_of_members-twin.result c.loop-group.invariant
    (omega (arith, c.loop-group.twins.ok.0)) c.twin_of_members-twin.ensures c.in_ok-push.ensures.items
