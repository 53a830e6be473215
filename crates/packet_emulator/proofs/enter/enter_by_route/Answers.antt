use Rattle.fabric.proofs.Routing.{has_target}
use Rattle.packet_emulator.proofs.enter.enter_by_route.Goals as goal

pub enter_target-requires-clause-there : goal.enter_target-requires-clause-there
enter_target-requires-clause-there c =
    has_target c.args.f.now c.network.result.now c.args.t c.args.k c.route_at.result.now c.network.ensures c.description.ensures.accepted c.requires.route c.route_at.ensures c.if-route_at.false
