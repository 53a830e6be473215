use Rattle.std.proofs.Common.{◌∙◌, IfOk, subst}
use Rattle.box_walk.specs.Asking.{Asking}
use Rattle.header_boxes.specs.Rows.{IsFirst}
use Rattle.policy_check.specs.Stopped.{passing_of}
use Rattle.policy_check.proofs.halts.first_stopped.Goals as goal

pub returns : goal.returns
returns g c =
    subst (λ (a : Asking). IfOk c.first.result (IsFirst (passing_of a) c.args.query.now.sides)) (c.of.ensures ∙ c.of-round.ensures) c.first.ensures
