use Rattle.std.proofs.Common.{◌<◌, arith, sym, ◌∙◌}
use Rattle.box_survey.proofs.Answer.{next_if_meets, none_before_more, some_before}
use Rattle.box_survey.proofs.survey.next_sharing.Goals as goal

pub returns-then-meets_at : goal.returns-then-meets_at
returns-then-meets_at c =
    let lt : c.args.number < c.loop-later.later = omega arith in
    next_if_meets c.args.boxes.now c.args.number c.loop-later.later _ c.requires.some c.loop-later.invariant lt (sym c.meets_at.ensures ∙ c.if-meets_at.true)

pub loop-later-preserved : goal.loop-later-preserved
loop-later-preserved c =
    none_before_more c.args.boxes.now c.args.number c.loop-later.later _ c.requires.some c.loop-later.invariant (sym c.meets_at.ensures ∙ c.if-meets_at.false)

pub returns : goal.returns
returns c = absurd (some_before c.args.boxes.now c.args.number c.loop-later.later c.requires.some c.loop-later.invariant (omega (arith, c.loop-later-test.false)))
