use Rattle.std.proofs.Common.{subst}
use Rattle.vpc_model.specs.Accepted.{IsAccepted}
use Rattle.vpc_model.specs.Appliances.{appliances_of}
use Rattle.vpc_model.specs.declared.places.Place.TheVariants as places
use Rattle.box_steps.proofs.PlainSteps.{peer_step, sound_at, walk_of_moment}
use Rattle.box_steps.proofs.step.at_peering.Goals as goal

pub peer_on-x-requires-clause-sound : goal.peer_on-x-requires-clause-sound
peer_on-x-requires-clause-sound c = sound_at c.args.f.now c.requires.moment.0 c.args.m.now (places.Peer c.args.c c.args.v) c.requires.moment.1 c.requires.place

pub peer_on-x-requires-clause-valid : goal.peer_on-x-requires-clause-valid
peer_on-x-requires-clause-valid c = c.requires.moment.1.valid

pub peer_on-x-requires-clause-walk : goal.peer_on-x-requires-clause-walk
peer_on-x-requires-clause-walk c = walk_of_moment c.args.f.now c.requires.moment.0 c.args.m.now c.requires.moment.1

pub returns : goal.returns
returns c label k =
    let d = c.args.f.now in
    peer_step d (appliances_of d) label c.args.c c.args.v c.peer_on-x.result c.args.m.now c.turn.new.self c.turn.result
    (subst IsAccepted c.network.ensures c.description.ensures.accepted) k c.requires.place c.turn.ensures c.peer_on-x.ensures
