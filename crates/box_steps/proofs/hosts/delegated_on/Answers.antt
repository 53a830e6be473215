use Rattle.box_steps.proofs.Delegated.{delegated-answers}
use Rattle.box_steps.proofs.hosts.delegated_on.Goals as goal

pub returns : goal.returns
returns c =
    delegated-answers c.args.f.now c.network.result.now c.args.v c.args.i.now c.args.side c.low_on-low.result c.delegated-last.result c.up_to.result
    c.network.ensures c.low_on-low.ensures c.delegated-last.ensures c.up_to.ensures
