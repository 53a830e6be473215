use Rattle.std.proofs.Common.{subst}
use Rattle.header_boxes.specs.Boxes.{low_of}
use Rattle.vpc_base.specs.Cuts.{AreAmong}
use Rattle.vpc_laws.specs.Types.{End}
use Rattle.std.specs.Prelude.{Option}
use Rattle.vpc_model.specs.Appliances.{appliances_of}
use Rattle.vpc_model.specs.Near.{near_cuts}
use Rattle.box_walk.proofs.MissedRequests.{request_missed, told_whether}
use Rattle.box_walk.proofs.Telling.{request_arrives}
use Rattle.box_walk.specs.Asking.{asked_by, homes_by, word_of}
use Rattle.box_walk.specs.Seeking.{IsWalkSought}
use Rattle.box_walk.proofs.verdict.is_stopped.Goals as goal

pub returns-in-Some : goal.returns-in-Some
returns-in-Some g c =
    let d = c.args.f.now in
    let a = appliances_of d in
    told_whether (AreAmong (near_cuts d a c.args.start c.args.goal (low_of c.args.m.now.header.part))) (word_of (asked_by d (homes_by c.args.links.now c.args.start) c.args.goal)) c.args.m.now c.word_of_arrival.new.m
    c.word_of_arrival.result c.whether.result c.whether.ensures
    (request_arrives d a (homes_by c.args.links.now c.args.start) c.args.goal c.in-Some.end c.args.m.now c.seek_on.new.m c.word_of_arrival.new.m c.word_of_arrival.result c.requires.requests
    (subst (λ (o : Option End). IsWalkSought d a c.args.goal c.args.m.now c.seek_on.new.m o) c.in-Some.is c.seek_on.ensures)
    c.word_of_arrival.ensures)

pub returns-in-None : goal.returns-in-None
returns-in-None g c =
    let d = c.args.f.now in
    let a = appliances_of d in
    request_missed d a (homes_by c.args.links.now c.args.start) c.args.goal c.args.m.now c.seek_on.new.m c.requires.requests
    (subst (λ (o : Option End). IsWalkSought d a c.args.goal c.args.m.now c.seek_on.new.m o) c.in-None.is c.seek_on.ensures)
