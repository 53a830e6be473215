use Rattle.std.proofs.Common.{arith}
use Rattle.edge_gateways.proofs.PairSteps.{interfaces_next}
use Rattle.edge_gateways.proofs.pairs.pairs_of.Goals as goal

pub loop-interface-preserved : goal.loop-interface-preserved
loop-interface-preserved c = (
  interfaces_next c.args.n.now c.description.result.now c.loop-interface.pairs.items c.add_pairs.new.pairs.items c.as_slice-interface-items.result.now c.loop-interface.interface-index c.interface-item.result c.vpc_of_interface-vpc.result
      c.as_slice.result.now c.description.ensures.value c.as_slice-interface-items.ensures (omega arith) c.interface-item.is c.loop-interface.invariant.0 c.vpc_of_interface-vpc.ensures c.as_slice.ensures c.in_ok-add_pairs.ensures.added,
  c.in_ok-add_pairs.ensures.fit c.loop-interface.invariant.1,
)
