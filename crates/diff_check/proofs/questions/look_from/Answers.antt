use Rattle.std.proofs.Common.{◌∙◌}
use Rattle.diff_check.proofs.Agreeing.{told_of-start}
use Rattle.diff_check.proofs.questions.look_from.Goals as goal

pub returns : goal.returns
returns g c =
    let l = c.of.result in
    λ a boxes told.
    c.look_once.ensures a boxes
    (λ h.
    told h
    ∙ told_of-start c.args.asked.now.compared c.args.start.now l.walks.before.sent l.walks.after.sent
    l.id.now h c.of.ensures.before c.of.ensures.after c.of.ensures.id)
