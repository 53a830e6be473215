use Rattle.vpc_model.specs.Appliances.{appliances_of}
use Rattle.box_walk.proofs.WayLemmas.{have_come_if}
use Rattle.box_walk.proofs.ways.come_to.Goals as goal

pub returns : goal.returns
returns g c =
    let d = c.args.f.now in
    have_come_if d (appliances_of d) c.args.start c.follow_to.result c.new-visited.result.items c.args.m.now c.follow_to.new.m c.new-visited.ensures c.requires.requests c.follow_to.ensures
