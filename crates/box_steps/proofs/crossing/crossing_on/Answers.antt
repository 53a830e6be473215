use Rattle.box_steps.proofs.AclAnswers.{answers_across, answers_inside}
use Rattle.box_steps.proofs.crossing.crossing_on.Goals as goal

pub returns-then-s-t : goal.returns-then-s-t
returns-then-s-t c = answers_inside c.args.f.now c.args.s c.args.t c.args.i.now c.requires.valid.part c.if-s-t.true

pub returns : goal.returns
returns c = answers_across c.args.f.now c.args.s c.args.t c.args.i.now c.between_on.result c.if-s-t.false c.between_on.ensures
