use Rattle.address_sets.proofs.Blocks.{has-blocks}
use Rattle.address_sets.proofs.sets.AddressSet.of_blocks.Goals as goal

pub returns : goal.returns
returns c = has-blocks c.of.result c.in_ok-runs_of.field-0.items c.args.blocks.now c.in_ok-runs_of.ensures c.of.ensures
