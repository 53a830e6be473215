use Rattle.std.proofs.Common.{◌≡◌, subst, sym, true}
use Rattle.vpc_model.specs.Lookup.{addresses_in}
use Rattle.vpc_model.specs.Sound.{is_end}
use Rattle.box_walk.proofs.TellingArrivals.{request_moment}
use Rattle.box_walk.specs.Asking.{Asking}
use Rattle.box_walk.proofs.ways.Way.find.Goals as goal

pub come_to-come-requires-clause-moment : goal.come_to-come-requires-clause-moment
come_to-come-requires-clause-moment g c =
    let begun = c.begin.ensures in
    request_moment c.self.inside.fabric.now c.self.inside.start c.begin.new.m (subst (λ (a : Asking). is_end a.network a.homes.start ≡ true) (sym c.self.view_is) c.requires.ends.start)
    begun.place begun.valid (begun.kind (addresses_in c.self.inside.fabric.now)) begun.conns begun.nats
