use Rattle.box_steps.proofs.RuleAnswers.{answers_of_rules}
use Rattle.box_steps.proofs.groups.allowed_on.Goals as goal

pub returns : goal.returns
returns c =
    answers_of_rules c.args.f.now c.args.i c.args.dir c.groups.result.now c.args.image.now c.allows_on.result c.requires.eni c.groups.ensures.rules c.groups.ensures.cuts c.requires.valid
    c.allows_on.ensures
