use Rattle.std.proofs.Common.{arith}
use Rattle.edge_gateways.proofs.PairSteps.{pairs_next}
use Rattle.edge_gateways.proofs.pairs.add_pairs.Goals as goal

pub loop-address-preserved : goal.loop-address-preserved
loop-address-preserved c = (
  pairs_next c.args.vpc c.args.pairs.now.items c.loop-address.pairs.items c.add_pair.new.pairs.items c.args.addresses.now c.loop-address.address-index _ (omega arith) c.loop-address.invariant.0 c.in_ok-add_pair.ensures.added,
  λ all. c.in_ok-add_pair.ensures.fit (c.loop-address.invariant.1 all),
)
