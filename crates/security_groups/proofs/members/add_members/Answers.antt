use Rattle.std.proofs.Common.{arith}
use Rattle.security_groups.proofs.MemberSteps.{members-next}
use Rattle.security_groups.proofs.members.add_members.Goals as goal

pub loop-address-preserved : goal.loop-address-preserved
loop-address-preserved c =
    members-next c.args.groups.now c.args.keys.now.items c.args.addresses.now c.loop-address.address-index _ c.loop-address.keys.items c.add_member.new.keys.items (omega arith) c.loop-address.invariant.0 c.loop-address.invariant.1
    c.in_ok-add_member.ensures.added c.add_member.ensures.fits
