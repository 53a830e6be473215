use Rattle.std.proofs.Common.{IfOk, subst}
use Rattle.box_walk.specs.Asking.{Asking, asked_by, homes_by}
use Rattle.header_boxes.specs.Rows.{IsFirst}
use Rattle.unused_rules.specs.Probe.{agreement_of}
use Rattle.unused_rules.proofs.judging.first_apart.Goals as goal

pub returns : goal.returns
returns g c =
    let b = asked_by c.args.before.now.fabric.now (homes_by c.args.before.now.links.now c.args.before.now.start) c.args.before.now.goal in
    subst (λ (y : Asking). IfOk c.first.result (IsFirst (agreement_of b y) c.args.sides)) c.of.ensures.after
    (subst (λ (x : Asking). IfOk c.first.result (IsFirst (agreement_of x (asked_by c.of.result.after.now.fabric.now (homes_by c.of.result.after.now.links.now c.of.result.after.now.start) c.of.result.after.now.goal)) c.args.sides)) c.of.ensures.before c.first.ensures)
