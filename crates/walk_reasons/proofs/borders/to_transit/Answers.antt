use Rattle.std.proofs.Common.{◌∙◌, subst, sym}
use Rattle.transit_gateway.proofs.Entering.{zone-lies}
use Rattle.vpc_model.specs.Accepted.{IsAccepted}
use Rattle.walk_reasons.proofs.Places.{from_into_lie}
use Rattle.walk_reasons.proofs.borders.to_transit.Goals as goal

pub returns-in-Ok-clause-lie : goal.returns-in-Ok-clause-lie
returns-in-Ok-clause-lie c =
    from_into_lie c.args.f.now c.args.s c.in-Ok.entered.1 c.from_into.result c.from_into.ensures c.requires
    (zone-lies c.args.f.now c.bytes.result.now c.args.s c.in-Ok.entered.0 c.in-Ok.entered.1 (subst IsAccepted c.network.ensures c.description.ensures.accepted) c.requires (sym (c.enter.ensures c.args.f.now c.transit.ensures) ∙ c.in-Ok.is))
