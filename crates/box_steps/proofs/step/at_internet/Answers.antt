use Rattle.std.proofs.Common.{subst}
use Rattle.vpc_model.specs.Accepted.{IsAccepted}
use Rattle.vpc_model.specs.Appliances.{appliances_of}
use Rattle.box_steps.proofs.PlainSteps.{internet_step, walk_of_moment}
use Rattle.box_steps.proofs.step.at_internet.Goals as goal

pub internet_on-x-requires-clause-valid : goal.internet_on-x-requires-clause-valid
internet_on-x-requires-clause-valid c = c.requires.moment.1.valid

pub internet_on-x-requires-clause-walk : goal.internet_on-x-requires-clause-walk
internet_on-x-requires-clause-walk c = walk_of_moment c.args.f.now c.requires.moment.0 c.args.m.now c.requires.moment.1

pub returns : goal.returns
returns c label k =
    let d = c.args.f.now in
    internet_step d (appliances_of d) label c.internet_on-x.result c.args.m.now c.turn.new.self c.turn.result
    (subst IsAccepted c.network.ensures c.description.ensures.accepted) k c.requires.place c.turn.ensures c.internet_on-x.ensures
