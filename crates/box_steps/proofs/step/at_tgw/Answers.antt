use Rattle.std.proofs.Common.{subst}
use Rattle.vpc_model.specs.Accepted.{IsAccepted}
use Rattle.vpc_model.specs.Appliances.{appliances_of}
use Rattle.std.proofs.lemmas.Bool.{and_parts}
use Rattle.vpc_model.specs.Sound.{is_attachment, is_subnet}
use Rattle.vpc_model.specs.declared.places.Place.TheVariants as places
use Rattle.box_steps.proofs.PlainSteps.{sound_at, tgw_step, walk_of_moment}
use Rattle.box_steps.proofs.step.at_tgw.Goals as goal

pub tgw_on-x-requires-clause-attachment : goal.tgw_on-x-requires-clause-attachment
tgw_on-x-requires-clause-attachment c =
    let d = c.args.f.now in
    (and_parts (is_attachment d c.args.a) (is_subnet d c.args.entered) (sound_at d c.requires.moment.0 c.args.m.now (places.Tgw c.args.a c.args.entered) c.requires.moment.1 c.requires.place)).0

pub tgw_on-x-requires-clause-valid : goal.tgw_on-x-requires-clause-valid
tgw_on-x-requires-clause-valid c = c.requires.moment.1.valid

pub tgw_on-x-requires-clause-walk : goal.tgw_on-x-requires-clause-walk
tgw_on-x-requires-clause-walk c = walk_of_moment c.args.f.now c.requires.moment.0 c.args.m.now c.requires.moment.1

pub returns : goal.returns
returns c label k =
    let d = c.args.f.now in
    tgw_step d (appliances_of d) label c.args.a c.args.entered c.tgw_on-x.result c.args.m.now c.turn.new.self c.turn.result
    (subst IsAccepted c.network.ensures c.description.ensures.accepted) k c.requires.place c.turn.ensures c.tgw_on-x.ensures
