use Rattle.std.proofs.Common.{◌∙◌}
use Rattle.box_walk.specs.Asking.{asked_by, homes_by}
use Rattle.network_reach.proofs.Reports.{first_by_stops}
use Rattle.network_reach.proofs.reach.first_by.Goals as goal

pub returns : goal.returns
returns g c =
    let p = c.of.result.round.now in
    first_by_stops c.args.f.now c.args.query.now (asked_by p.fabric.now (homes_by p.links.now p.start) p.goal) c.first.result (c.of.ensures ∙ c.requires.round) c.first.ensures
