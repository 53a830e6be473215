use Rattle.image_tests.proofs.Stretches.{set-answers}
use Rattle.edge_gateways.proofs.internet.side_on.Goals as goal

pub returns : goal.returns
returns c =
    set-answers c.args.i.now c.args.side _ c.low_on-low.result c.stretch-last.result.0 c.stretch-last.result.1 c.up_to.result
    c.low_on-low.ensures c.stretch-last.ensures c.up_to.ensures
