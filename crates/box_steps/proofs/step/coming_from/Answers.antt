use Rattle.std.proofs.Common.{subst}
use Rattle.std.proofs.lemmas.Bool.{and_parts}
use Rattle.vpc_model.specs.Accepted.{IsAccepted}
use Rattle.vpc_model.specs.Appliances.{appliances_of}
use Rattle.vpc_model.specs.Far.{is_far_end}
use Rattle.vpc_model.specs.Lookup.{far_at}
use Rattle.vpc_model.specs.Sound.{is_far}
use Rattle.vpc_model.specs.declared.places.Place.TheVariants as places
use Rattle.box_steps.proofs.PlainSteps.{far_in_step, sound_at, walk_of_moment}
use Rattle.box_steps.proofs.step.coming_from.Goals as goal

pub far_in_on-x-requires-clause-far : goal.far_in_on-x-requires-clause-far
far_in_on-x-requires-clause-far c =
    let d = c.args.f.now in
    (and_parts (is_far d c.args.k) (is_far_end d (far_at d c.args.k)) (sound_at d c.args.label c.args.m.now (places.FarIn c.args.k) c.requires.moment c.requires.place)).0

pub far_in_on-x-requires-clause-valid : goal.far_in_on-x-requires-clause-valid
far_in_on-x-requires-clause-valid c = c.requires.moment.valid

pub far_in_on-x-requires-clause-walk : goal.far_in_on-x-requires-clause-walk
far_in_on-x-requires-clause-walk c = walk_of_moment c.args.f.now c.args.label c.args.m.now c.requires.moment

pub returns : goal.returns
returns c =
    let d = c.args.f.now in
    far_in_step d (appliances_of d) c.args.label c.args.k c.far_in_on-x.result c.args.m.now c.turn.new.self c.turn.result
    (subst IsAccepted c.network.ensures c.description.ensures.accepted) c.requires.moment c.requires.place c.turn.ensures c.far_in_on-x.ensures
