use Rattle.std.proofs.Common.{subst}
use Rattle.vpc_model.specs.Accepted.{IsAccepted}
use Rattle.vpc_model.specs.Appliances.{appliances_of}
use Rattle.vpc_model.specs.declared.places.Place.TheVariants as places
use Rattle.box_steps.proofs.PlainSteps.{inspect_step, sound_at, walk_of_moment}
use Rattle.box_steps.proofs.step.at_firewall.Goals as goal

pub inspect_on-x-requires-clause-firewall : goal.inspect_on-x-requires-clause-firewall
inspect_on-x-requires-clause-firewall c = sound_at c.args.f.now c.requires.moment.0 c.args.m.now (places.Inspect c.args.e) c.requires.moment.1 c.requires.place

pub inspect_on-x-requires-clause-valid : goal.inspect_on-x-requires-clause-valid
inspect_on-x-requires-clause-valid c = c.requires.moment.1.valid

pub inspect_on-x-requires-clause-walk : goal.inspect_on-x-requires-clause-walk
inspect_on-x-requires-clause-walk c = walk_of_moment c.args.f.now c.requires.moment.0 c.args.m.now c.requires.moment.1

pub returns : goal.returns
returns c label k =
    let d = c.args.f.now in
    inspect_step d (appliances_of d) label c.args.e c.inspect_on-x.result c.args.m.now c.turn.new.self c.turn.result
    (subst IsAccepted c.network.ensures c.description.ensures.accepted) k c.requires.place c.turn.ensures c.inspect_on-x.ensures
