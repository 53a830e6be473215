use Rattle.std.proofs.Common.{◌∙◌, ap, sym}
use Rattle.fabric.specs.Targets.{route_at}
use Rattle.vpc_laws.specs.Types.{Route}
use Rattle.box_steps.proofs.Away.{local_away}
use Rattle.box_steps.proofs.missing.to_target_away.Goals as goal

pub returns-in-Local : goal.returns-in-Local
returns-in-Local g c =
    let d = c.args.f.now in
    let is = ap (λ (r : Route). r.target) (sym c.route_at.ensures) ∙ c.in-Local.is in
    local_away d c.args.aim.now.deciders.now.appliances c.args.aim.now.goal c.args.s c.args.t c.args.k (route_at d c.args.t c.args.k).target c.vpc_of.result c.args.i.now c.host_away_on.result is
    c.vpc_of.ensures.number c.host_away_on.ensures
