use Rattle.reference_check.proofs.Delegating.{find-blocks}
use Rattle.reference_check.proofs.delegated.blocks_of.Goals as goal

pub returns : goal.returns
returns c = find-blocks c.args.d.now c.in_ok-runs.runs.items c.of.result c.in_ok-runs.ensures c.of.ensures.values c.of.ensures.runs
