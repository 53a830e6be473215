use Rattle.std.proofs.Common.{◌∙◌, ap, sym}
use Rattle.fabric.proofs.Routing.{eni-lies}
use Rattle.fabric.specs.Targets.{route_at}
use Rattle.vpc_laws.specs.Types.{Route}
use Rattle.vpc_model.specs.Lookup.{table_at}
use Rattle.walk_reasons.proofs.borders.of_target.Goals as goal

pub subnet_of-requires : goal.subnet_of-requires
subnet_of-requires c =
    let d = c.args.f.now in
    let is = ap (λ (r : Route). r.target) (sym c.route_at.ensures) ∙ c.in-Interface.is in
    eni-lies d (table_at d c.args.t).vpc (route_at d c.args.t c.args.k).target c.in-Interface.field-0 c.target_number.result is c.requires.there c.target_number.ensures
