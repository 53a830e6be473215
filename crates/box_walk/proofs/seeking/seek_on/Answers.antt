use Rattle.box_walk.proofs.MissedRests.{sought_from_rest}
use Rattle.vpc_model.specs.Appliances.{appliances_of}
use Rattle.box_walk.proofs.seeking.seek_on.Goals as goal

pub returns : goal.returns
returns g c =
    sought_from_rest c.args.f.now (appliances_of c.args.f.now) c.args.goal c.new-visited.result.items c.args.m.now c.rest_to.new.m c.rest_to.result c.new-visited.ensures c.rest_to.ensures
