use Rattle.std.proofs.Common.{subst}
use Rattle.vpc_model.specs.Accepted.{IsAccepted}
use Rattle.vpc_model.specs.Appliances.{appliances_of}
use Rattle.std.proofs.lemmas.Bool.{and_parts}
use Rattle.vpc_model.specs.Sound.{is_entry, is_vpc}
use Rattle.vpc_model.specs.declared.places.Place.TheVariants as places
use Rattle.box_steps.proofs.PlainSteps.{enter_step, sound_at, walk_of_moment}
use Rattle.box_steps.proofs.step.at_entrance.Goals as goal

pub enter_on-x-requires-clause-vpc : goal.enter_on-x-requires-clause-vpc
enter_on-x-requires-clause-vpc c =
    let d = c.args.f.now in
    let by = c.args.by in
    (and_parts (is_vpc d c.args.v) (is_entry d by) (sound_at d c.requires.moment.0 c.args.m.now (places.Enter c.args.v by) c.requires.moment.1 c.requires.place)).0

pub enter_on-x-requires-clause-entry : goal.enter_on-x-requires-clause-entry
enter_on-x-requires-clause-entry c =
    let d = c.args.f.now in
    let by = c.args.by in
    (and_parts (is_vpc d c.args.v) (is_entry d by) (sound_at d c.requires.moment.0 c.args.m.now (places.Enter c.args.v by) c.requires.moment.1 c.requires.place)).1

pub enter_on-x-requires-clause-valid : goal.enter_on-x-requires-clause-valid
enter_on-x-requires-clause-valid c = c.requires.moment.1.valid

pub enter_on-x-requires-clause-walk : goal.enter_on-x-requires-clause-walk
enter_on-x-requires-clause-walk c = walk_of_moment c.args.f.now c.requires.moment.0 c.args.m.now c.requires.moment.1

pub returns : goal.returns
returns c label k =
    let d = c.args.f.now in
    enter_step d (appliances_of d) label c.args.v c.args.by c.enter_on-x.result c.args.m.now c.turn.new.self c.turn.result
    (subst IsAccepted c.network.ensures c.description.ensures.accepted) k c.requires.place c.turn.ensures c.enter_on-x.ensures
