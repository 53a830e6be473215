use Rattle.std.proofs.Common.{◌∙◌, IfOk, subst}
use Rattle.box_walk.specs.Asking.{Asking, asked}
use Rattle.header_boxes.specs.Rows.{IsFirst}
use Rattle.policy_check.specs.Stopped.{halting_of}
use Rattle.policy_check.specs.declared.certainties.Certainty.{Certainty}
use Rattle.policy_check.proofs.halts.first_of.Goals as goal

pub returns : goal.returns
returns g c =
    let q = c.args.query.now in
    let sides = q.sides in
    let asked_so = subst (λ (a : Asking). IfOk c.first.result (IsFirst (halting_of c.of.result.certainty a) sides)) (c.of.ensures.asked ∙ c.of-round.ensures) c.first.ensures in
    subst (λ (certainty : Certainty). IfOk c.first.result (IsFirst (halting_of certainty (asked c.args.f.now q.start q.goal)) sides)) c.of.ensures.certainty asked_so
