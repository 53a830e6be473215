use Rattle.std.proofs.Common.{◌∙◌, subst, sym}
use Rattle.vpc_model.specs.Accepted.{IsAccepted}
use Rattle.transit_gateway.proofs.Entering.{zone-lies}
use Rattle.packet_emulator.proofs.router.to_transit.Goals as goal

pub to_zone-requires-clause-zone : goal.to_zone-requires-clause-zone
to_zone-requires-clause-zone c =
    zone-lies c.args.f.now c.bytes.result.now c.args.s c.in-Ok.a c.in-Ok.zone (subst IsAccepted c.network.ensures c.description.ensures.accepted) c.requires (sym (c.enter.ensures c.args.f.now c.transit.ensures) ∙ c.in-Ok.is)
