use Rattle.std.proofs.Common.{subst}
use Rattle.header_boxes.specs.declared.boxes.Box5.{Box5}
use Rattle.vpc_model.specs.Lookup.{addresses_in}
use Rattle.box_walk.specs.Asking.{homes_by}
use Rattle.box_walk.specs.Open.{AnswersJourney, starting_by}
use Rattle.box_walk.proofs.TellingArrivals.{request_moment}
use Rattle.box_walk.proofs.open.OpenProbe.follow.Goals as goal

pub journey_on-told-requires-clause-moment : goal.journey_on-told-requires-clause-moment
journey_on-told-requires-clause-moment g c =
    let begun = c.begin.ensures in
    request_moment c.args.self.now.fabric.now c.args.self.now.start c.begin.new.m c.args.self.now.known begun.place begun.valid (begun.kind (addresses_in c.args.self.now.fabric.now)) begun.conns begun.nats

pub returns : goal.returns
returns g c =
    let s = starting_by c.args.self.now.fabric.now (homes_by c.args.self.now.links.now c.args.self.now.start) in
    subst (λ (b : Box5). AnswersJourney s b (record { body = c.journey_on-told.new.m.header.part; told = c.journey_on-told.result })) c.begin.ensures.part c.journey_on-told.ensures
