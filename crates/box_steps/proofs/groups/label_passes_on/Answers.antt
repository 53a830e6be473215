use Rattle.box_steps.proofs.groups.label_passes_on.Goals as goal
use Rattle.box_steps.proofs.PlainSteps.{walk_of_moment}

pub allowed_on-requires-clause-walk : goal.allowed_on-requires-clause-walk
allowed_on-requires-clause-walk c = walk_of_moment c.args.f.now c.args.label c.args.m.now c.requires.moment
