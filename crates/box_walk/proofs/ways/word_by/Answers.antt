use Rattle.std.proofs.Common.{ap, subst}
use Rattle.box_images.specs.declared.images.Image.{Image}
use Rattle.box_steps.proofs.Narrowing.{moment-narrowed}
use Rattle.box_steps.specs.Moments.{IsStepOn}
use Rattle.box_steps.specs.declared.moment.BoxMoment.{BoxMoment}
use Rattle.box_steps.specs.declared.onward.Onward.{Onward}
use Rattle.vpc_base.specs.declared.headers.Label.TheVariants as labels
use Rattle.vpc_model.specs.Appliances.{appliances_of}
use Rattle.box_walk.specs.Asking.{homes_by}
use Rattle.box_walk.proofs.WayOn.{room_kept, way_arrives, way_stops}
use Rattle.box_walk.proofs.WayBack.{returns_known_if}
use Rattle.box_walk.proofs.ways.word_by.Goals as goal

pub step_in_place-requires-clause-moment : goal.step_in_place-requires-clause-moment
step_in_place-requires-clause-moment g c =
    moment-narrowed c.args.q.now.fabric.now labels.Opening c.args.sides.now c.args.before.now c.take_within.new.self c.requires.way.come.moment c.requires.within c.take_within.ensures

pub step_in_place-requires-clause-room : goal.step_in_place-requires-clause-room
step_in_place-requires-clause-room g c = room_kept c.args.sides.now c.args.before.now c.take_within.new.self c.take_within.ensures c.requires.way.come.room

pub returns-in-Stop : goal.returns-in-Stop
returns-in-Stop g c =
    let d = c.args.q.now.fabric.now in
    way_stops d (homes_by c.args.q.now.links.now c.args.q.now.start) c.args.q.now.goal c.args.sides.now c.args.before.now c.take_within.new.self c.step_in_place.new.m c.in-Stop.stop c.requires.way.come c.requires.within c.take_within.ensures
    (subst (λ (o : Onward). IsStepOn d (appliances_of d) labels.Opening c.take_within.new.self c.step_in_place.new.m o) c.in-Stop.is c.step_in_place.ensures)

pub word_back-requires-clause-back : goal.word_back-requires-clause-back
word_back-requires-clause-back g c =
    let d = c.args.q.now.fabric.now in
    let with_header : Image → BoxMoment = λ i. record c.step_in_place.new.m { header = i } in
    returns_known_if d (appliances_of d) (homes_by c.args.q.now.links.now c.args.q.now.start) c.args.q.now.goal c.in-Arrive.end c.args.sides.now c.args.before.now c.take_within.new.self c.step_in_place.new.m _ c.args.back.now c.requires.way.returns c.take_within.ensures
    (subst (λ (o : Onward). IsStepOn d (appliances_of d) labels.Opening c.take_within.new.self c.step_in_place.new.m o) c.in-Arrive.is c.step_in_place.ensures)
    (ap with_header c.within-m.ensures.image)

pub returns-in-Arrive : goal.returns-in-Arrive
returns-in-Arrive g c =
    let d = c.args.q.now.fabric.now in
    let with_header : Image → BoxMoment = λ i. record c.step_in_place.new.m { header = i } in
    way_arrives d (homes_by c.args.q.now.links.now c.args.q.now.start) c.args.q.now.goal c.in-Arrive.end c.args.sides.now c.args.before.now c.take_within.new.self c.step_in_place.new.m _ c.word_back.new.m c.word_back.result c.requires.way.come c.requires.within c.take_within.ensures
    (subst (λ (o : Onward). IsStepOn d (appliances_of d) labels.Opening c.take_within.new.self c.step_in_place.new.m o) c.in-Arrive.is c.step_in_place.ensures)
    (ap with_header c.within-m.ensures.image) c.word_back.ensures
