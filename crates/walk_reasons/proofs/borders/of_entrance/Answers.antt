use Rattle.fabric.proofs.Routing.{has_target}
use Rattle.walk_reasons.proofs.borders.of_entrance.Goals as goal

pub of_target-requires-clause-there : goal.of_target-requires-clause-there
of_target-requires-clause-there c =
    has_target c.args.f.now c.network.result.now c.args.t c.args.k c.route_at.result.now c.network.ensures c.description.ensures.accepted c.requires.route c.route_at.ensures c.if-route_at.false
