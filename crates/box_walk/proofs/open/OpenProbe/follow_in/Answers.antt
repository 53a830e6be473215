use Rattle.std.proofs.Common.{subst}
use Rattle.std.specs.Prelude.{IfSome}
use Rattle.header_boxes.specs.declared.boxes.Box5.{Box5}
use Rattle.vpc_model.specs.Appliances.{appliances_of}
use Rattle.vpc_model.specs.Lookup.{addresses_in}
use Rattle.box_walk.proofs.TellingArrivals.{request_moment}
use Rattle.box_walk.specs.Arriving.{AreArrivals}
use Rattle.box_walk.specs.Asking.{homes_by}
use Rattle.box_walk.proofs.open.OpenProbe.follow_in.Goals as goal

pub arrivals_of-requires-clause-moment : goal.arrivals_of-requires-clause-moment
arrivals_of-requires-clause-moment g c =
    let begun = c.begin.ensures in
    request_moment c.args.self.now.fabric.now c.args.self.now.start c.begin.new.m c.args.self.now.known begun.place begun.valid (begun.kind (addresses_in c.args.self.now.fabric.now)) begun.conns begun.nats

pub returns : goal.returns
returns g c =
    let d = c.args.self.now.fabric.now in
    subst (λ (b : Box5). IfSome c.arrivals_of.result (AreArrivals d (appliances_of d) (homes_by c.args.self.now.links.now c.args.self.now.start) b)) c.begin.ensures.part c.arrivals_of.ensures
