use Rattle.std.proofs.Common.{subst}
use Rattle.vpc_model.specs.Accepted.{IsAccepted}
use Rattle.vpc_model.specs.Appliances.{appliances_of}
use Rattle.std.proofs.lemmas.Bool.{and_parts}
use Rattle.vpc_model.specs.Sound.{is_origin, is_subnet}
use Rattle.vpc_model.specs.declared.places.Place.TheVariants as places
use Rattle.box_steps.proofs.PlainSteps.{router_step, sound_at, walk_of_moment}
use Rattle.box_steps.proofs.step.at_router.Goals as goal

pub router_on-x-requires-clause-subnet : goal.router_on-x-requires-clause-subnet
router_on-x-requires-clause-subnet c =
    let d = c.args.f.now in
    let came = c.requires.place.0 in
    (and_parts (is_subnet d c.args.s) (is_origin d came) (sound_at d c.requires.moment.0 c.args.m.now (places.Router c.args.s came) c.requires.moment.1 c.requires.place.1)).0

pub router_on-x-requires-clause-valid : goal.router_on-x-requires-clause-valid
router_on-x-requires-clause-valid c = c.requires.moment.1.valid

pub router_on-x-requires-clause-walk : goal.router_on-x-requires-clause-walk
router_on-x-requires-clause-walk c = walk_of_moment c.args.f.now c.requires.moment.0 c.args.m.now c.requires.moment.1

pub returns : goal.returns
returns c label k =
    let d = c.args.f.now in
    router_step d (appliances_of d) label c.args.s c.requires.place.0 c.router_on-x.result c.args.m.now c.turn.new.self c.turn.result
    (subst IsAccepted c.network.ensures c.description.ensures.accepted) k c.requires.place.1 c.turn.ensures (c.router_on-x.ensures c.requires.place.0)

pub turn-requires-clause-within : goal.turn-requires-clause-within
turn-requires-clause-within c = (c.router_on-x.ensures c.requires.place.0).body.within
