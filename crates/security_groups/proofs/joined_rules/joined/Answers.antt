use Rattle.std.proofs.Common.{subst, sym}
use Rattle.security_groups.proofs.Joining.{IsJoining, alike-slice, joining-all, joining-first, joining-next, joining-passed, slice-some}
use Rattle.security_groups.proofs.joined_rules.joined.Goals as goal
use Rattle.security_groups.proofs.joined_rules.joined.Goals.{else-k-end, then-k-end+in_ok-joint+in_ok-push}

pub loop-k-init : goal.loop-k-init
loop-k-init c = subst (IsJoining c.args.rules.now 0 0) (sym c.new-joined.ensures.items) (joining-first c.args.rules.now)

pub joint-requires-clause-some : goal.joint-requires-clause-some
joint-requires-clause-some c = slice-some c.args.rules.now c.loop-k.k c.alike_until-end.result c.alike_until-end.ensures.some c.alike_until-end.ensures.within

pub joint-requires-clause-alike : goal.joint-requires-clause-alike
joint-requires-clause-alike c =
    alike-slice c.args.rules.now c.loop-k.k c.alike_until-end.result c.alike_until-end.ensures.some c.alike_until-end.ensures.within c.alike_until-end.ensures.alike

pub loop-k-preserved : goal.loop-k-preserved
loop-k-preserved c =
    let rules = c.args.rules.now in
    let k = c.loop-k.k in
    elim c.if-k-end.branch [
      | then-k-end+in_ok-joint+in_ok-push w ↦
          rw (w.end-is, w.joined-is)
          (joining-next rules c.loop-k.joined.items w.push.new.self.items k c.loop-k.end w.alike_until-end.result w.in_ok-joint.field-0 w.if-k-end.true
          w.alike_until-end.ensures.some w.alike_until-end.ensures.within w.in_ok-joint.ensures w.in_ok-push.ensures.items c.loop-k.invariant)
      | else-k-end w ↦ rw (w.end-is, w.joined-is) (joining-passed rules c.loop-k.joined.items k c.loop-k.end w.if-k-end.false c.loop-k.invariant)
    ]

pub returns : goal.returns
returns c = joining-all c.args.rules.now c.loop-k.joined.items c.loop-k.k c.loop-k.end c.loop-k-test.false c.loop-k.invariant
