use Rattle.std.proofs.Common.{subst}
use Rattle.header_boxes.specs.declared.boxes.Box5.{Box5}
use Rattle.vpc_model.specs.Lookup.{addresses_in}
use Rattle.box_walk.specs.Asking.{AnswersStopped, asked_by, homes_by}
use Rattle.box_walk.proofs.TellingArrivals.{request_moment}
use Rattle.box_walk.proofs.probe.RoundProbe.ask_whole.Goals as goal

pub is_stopped-requires-clause-moment : goal.is_stopped-requires-clause-moment
is_stopped-requires-clause-moment g c =
    let begun = c.begin.ensures in
    request_moment c.args.self.now.fabric.now c.args.self.now.start c.begin.new.m c.args.self.now.known.start begun.place begun.valid (begun.kind (addresses_in c.args.self.now.fabric.now)) begun.conns begun.nats

pub returns : goal.returns
returns g c =
    let a = asked_by c.args.self.now.fabric.now (homes_by c.args.self.now.links.now c.args.self.now.start) c.args.self.now.goal in
    subst (λ (b : Box5). AnswersStopped a b (record { body = c.is_stopped.new.m.header.part; told = c.is_stopped.result })) c.begin.ensures.part c.is_stopped.ensures
