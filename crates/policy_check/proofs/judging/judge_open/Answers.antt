use Rattle.std.proofs.Common.{Option, subst}
use Rattle.box_walk.specs.Asking.{asked}
use Rattle.header_boxes.specs.Rows.{IsFirst}
use Rattle.vpc_laws.specs.Types.{Header}
use Rattle.policy_check.proofs.Found.{all_through}
use Rattle.policy_check.specs.Stopped.{passing_of}
use Rattle.policy_check.proofs.judging.judge_open.Goals as goal

pub returns-in-None : goal.returns-in-None
returns-in-None g c =
    let d = c.args.f.now in
    let q = c.args.query.now in
    all_through d q (subst (λ (o : Option Header). IsFirst (passing_of (asked d q.start q.goal)) q.sides o) c.in-None.is c.in_ok-h.ensures)
