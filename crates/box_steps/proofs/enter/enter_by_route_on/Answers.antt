use Rattle.fabric.proofs.Routing.{has_target}
use Rattle.box_steps.proofs.enter.enter_by_route_on.Goals as goal

pub enter_target_on-requires-clause-there : goal.enter_target_on-requires-clause-there
enter_target_on-requires-clause-there c =
    has_target c.args.f.now c.network.result.now c.args.t c.args.k c.route_at.result.now c.network.ensures c.description.ensures.accepted c.requires.route c.route_at.ensures c.if-route_at.false
