use Rattle.header_boxes.proofs.Held.{within_itself}
use Rattle.box_steps.proofs.Narrowing.{moment-narrowed}
use Rattle.vpc_base.specs.declared.headers.Label.TheVariants as labels
use Rattle.vpc_model.specs.Appliances.{appliances_of}
use Rattle.vpc_model.specs.declared.places.End.TheVariants as ends
use Rattle.box_walk.specs.Asking.{homes_by}
use Rattle.box_walk.proofs.WayOn.{room_kept}
use Rattle.box_walk.proofs.WayBack.{returns_from_itself}
use Rattle.box_walk.proofs.ways.returns_from.Goals as goal

pub step_in_place-requires-clause-moment : goal.step_in_place-requires-clause-moment
step_in_place-requires-clause-moment g c =
    let m = c.args.before.now in
    moment-narrowed c.args.f.now labels.Opening m.header.part m c.take_within.new.self c.requires.moment (within_itself m.header.part c.requires.moment.valid.part) c.take_within.ensures

pub step_in_place-requires-clause-room : goal.step_in_place-requires-clause-room
step_in_place-requires-clause-room g c = room_kept c.args.before.now.header.part c.args.before.now c.take_within.new.self c.take_within.ensures c.requires.room

pub let_in-requires-clause-moment : goal.let_in-requires-clause-moment
let_in-requires-clause-moment g c =
    let m = c.args.before.now in
    moment-narrowed c.args.f.now labels.Opening m.header.part m c.take_within-2.new.self c.requires.moment (within_itself m.header.part c.requires.moment.valid.part) c.take_within-2.ensures

pub let_in-requires-clause-room : goal.let_in-requires-clause-room
let_in-requires-clause-room g c = room_kept c.args.before.now.header.part c.args.before.now c.take_within-2.new.self c.take_within-2.ensures c.requires.room

pub returns : goal.returns
returns g c =
    returns_from_itself c.args.f.now (appliances_of c.args.f.now) (homes_by c.args.links.now c.args.start) (ends.Interface c.args.i) c.args.before.now c.take_within-2.new.self c.let_in.new.m c.word_of_arrival-told.new.m
    c.word_of_arrival-told.result c.take_within-2.ensures c.let_in.ensures c.word_of_arrival-told.ensures
