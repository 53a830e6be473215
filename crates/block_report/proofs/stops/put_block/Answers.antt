use Rattle.block_report.proofs.Visible.{block_is_id}
use Rattle.block_report.proofs.stops.put_block.Goals as goal

pub returns-clause-visible : goal.returns-clause-visible
returns-clause-visible c = block_is_id c.args.block.now c.first.ensures.block
