use Rattle.box_walk.proofs.Rests.{walk_from_rest}
use Rattle.vpc_model.specs.Appliances.{appliances_of}
use Rattle.box_walk.proofs.walks.walk_on.Goals as goal

pub returns : goal.returns
returns g c =
    walk_from_rest c.args.f.now (appliances_of c.args.f.now) c.args.label c.new-visited.result.items c.args.m.now c.rest_on.new.m c.rest_on.result c.new-visited.ensures c.rest_on.ensures
