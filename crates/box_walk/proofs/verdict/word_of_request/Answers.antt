use Rattle.std.proofs.Common.{subst}
use Rattle.box_walk.proofs.Telling.{request_arrives, request_stops}
use Rattle.box_walk.specs.Asking.{homes_by}
use Rattle.box_walk.specs.Walks.{IsWalkOn}
use Rattle.box_walk.specs.declared.walks.Ending.{Ending}
use Rattle.vpc_base.specs.declared.headers.Label.TheVariants as labels
use Rattle.vpc_model.specs.Appliances.{appliances_of}
use Rattle.box_walk.proofs.verdict.word_of_request.Goals as goal

pub returns-in-Stopped : goal.returns-in-Stopped
returns-in-Stopped g c =
    request_stops c.args.f.now (appliances_of c.args.f.now) (homes_by c.args.links.now c.args.start) c.args.goal c.args.m.now c.walk_on.new.m c.in-Stopped.stop c.requires.requests
    (subst (λ (e : Ending). IsWalkOn c.args.f.now (appliances_of c.args.f.now) labels.Opening c.args.m.now c.walk_on.new.m e) c.in-Stopped.is c.walk_on.ensures)

pub returns-in-Arrived : goal.returns-in-Arrived
returns-in-Arrived g c =
    request_arrives c.args.f.now (appliances_of c.args.f.now) (homes_by c.args.links.now c.args.start) c.args.goal c.in-Arrived.end c.args.m.now c.walk_on.new.m c.word_of_arrival.new.m c.word_of_arrival.result c.requires.requests
    (subst (λ (e : Ending). IsWalkOn c.args.f.now (appliances_of c.args.f.now) labels.Opening c.args.m.now c.walk_on.new.m e) c.in-Arrived.is c.walk_on.ensures)
    c.word_of_arrival.ensures
