use Rattle.std.proofs.Common.{◌∙◌, subst, sym}
use Rattle.box_walk.proofs.JourneyLemmas.{arrives-end, journey_arrives, journey_returns, journey_stops}
use Rattle.box_walk.specs.Asking.{homes_by}
use Rattle.box_walk.specs.Walks.{IsWalkOn}
use Rattle.box_walk.specs.declared.walks.Ending.{Ending}
use Rattle.vpc_base.specs.declared.headers.Label.TheVariants as labels
use Rattle.vpc_laws.specs.Types.{Description}
use Rattle.vpc_model.specs.Accepted.{IsAccepted}
use Rattle.vpc_model.specs.Appliances.{appliances_of}
use Rattle.box_walk.proofs.journeys.journey_on.Goals as goal

pub returns-in-Stopped : goal.returns-in-Stopped
returns-in-Stopped g c =
    journey_stops c.args.f.now (appliances_of c.args.f.now) (homes_by c.args.links.now c.args.start) c.args.m.now c.walk_on.new.m c.in-Stopped.stop c.requires.requests
    (subst (λ (e : Ending). IsWalkOn c.args.f.now (appliances_of c.args.f.now) labels.Opening c.args.m.now c.walk_on.new.m e) c.in-Stopped.is c.walk_on.ensures)

pub returns-then-same_end : goal.returns-then-same_end
returns-then-same_end g c =
    journey_returns c.args.f.now (appliances_of c.args.f.now) (homes_by c.args.links.now c.args.start) c.in-Arrived.end c.args.m.now c.walk_on.new.m c.requires.requests (sym c.same_end.ensures ∙ c.if-same_end.true)
    (subst (λ (e : Ending). IsWalkOn c.args.f.now (appliances_of c.args.f.now) labels.Opening c.args.m.now c.walk_on.new.m e) c.in-Arrived.is c.walk_on.ensures)

pub word_of_arrival-requires-clause-goal : goal.word_of_arrival-requires-clause-goal
word_of_arrival-requires-clause-goal g c =
    arrives-end c.args.f.now (appliances_of c.args.f.now) c.args.m.now c.walk_on.new.m c.in-Arrived.end (subst (λ (d : Description). IsAccepted d) c.network.ensures c.description.ensures.accepted) c.requires.moment.sound
    (subst (λ (e : Ending). IsWalkOn c.args.f.now (appliances_of c.args.f.now) labels.Opening c.args.m.now c.walk_on.new.m e) c.in-Arrived.is c.walk_on.ensures)

pub returns-else-same_end : goal.returns-else-same_end
returns-else-same_end g c =
    journey_arrives c.args.f.now (appliances_of c.args.f.now) (homes_by c.args.links.now c.args.start) c.in-Arrived.end c.args.m.now c.walk_on.new.m c.word_of_arrival.new.m c.word_of_arrival.result c.toward.result c.requires.requests
    (sym c.same_end.ensures ∙ c.if-same_end.false) c.toward.ensures
    (subst (λ (e : Ending). IsWalkOn c.args.f.now (appliances_of c.args.f.now) labels.Opening c.args.m.now c.walk_on.new.m e) c.in-Arrived.is c.walk_on.ensures)
    c.word_of_arrival.ensures
