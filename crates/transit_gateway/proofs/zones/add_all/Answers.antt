use Rattle.std.proofs.Common.{◌++◌, ◌∷◌, ◌∙◌, [], ap}
use Rattle.vpc_base.proofs.Steps.{pushed-map}
use Rattle.transit_gateway.specs.Zones.{zone_entry}
use Rattle.transit_gateway.proofs.zones.add_all.Goals as goal

pub loop-id-preserved : goal.loop-id-preserved
loop-id-preserved c =
    pushed-map (zone_entry c.args.n.now c.args.number) c.args.entries.now.items c.args.ids.now c.loop-id.id-index c.id-item.result c.loop-id.entries.items c.push.new.self.items c.loop-id-test.true c.id-item.is c.loop-id.invariant
    (c.in_ok-push.ensures.items ∙ ap (λ e. c.loop-id.entries.items ++ e ∷ []) c.zone_entry.ensures)
