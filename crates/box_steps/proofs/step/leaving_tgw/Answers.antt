use Rattle.std.proofs.Common.{refl, subst}
use Rattle.vpc_model.specs.Accepted.{IsAccepted}
use Rattle.vpc_model.specs.Appliances.{appliances_of}
use Rattle.std.proofs.lemmas.Bool.{and_parts}
use Rattle.vpc_model.specs.Sound.{is_attachment, is_subnet}
use Rattle.vpc_model.specs.declared.places.Place.TheVariants as places
use Rattle.box_steps.proofs.PlainSteps.{sound_at, tgw_leave_step}
use Rattle.box_steps.proofs.step.leaving_tgw.Goals as goal

pub tgw_leave_to-requires-clause-attachment : goal.tgw_leave_to-requires-clause-attachment
tgw_leave_to-requires-clause-attachment c =
    let d = c.args.f.now in
    (and_parts (is_attachment d c.args.a) (is_subnet d c.args.entered) (sound_at d c.requires.moment.0 c.args.m.now (places.TgwLeave c.args.a c.args.entered) c.requires.moment.1 c.requires.place)).0

pub tgw_leave_to-requires-clause-subnet : goal.tgw_leave_to-requires-clause-subnet
tgw_leave_to-requires-clause-subnet c =
    let d = c.args.f.now in
    (and_parts (is_attachment d c.args.a) (is_subnet d c.args.entered) (sound_at d c.requires.moment.0 c.args.m.now (places.TgwLeave c.args.a c.args.entered) c.requires.moment.1 c.requires.place)).1

pub returns : goal.returns
returns c label k =
    let d = c.args.f.now in
    tgw_leave_step d (appliances_of d) label c.args.a c.args.entered c.tgw_leave_to.result _ c.args.m.now c.turn.new.self c.turn.result
    (subst IsAccepted c.network.ensures c.description.ensures.accepted) k c.requires.place refl c.turn.ensures c.tgw_leave_to.ensures
