use Rattle.std.proofs.Common.{arith}
use Rattle.block_pieces.proofs.Walking.{starts-after}
use Rattle.block_pieces.proofs.sweep.Sweep.enter_until.Goals as goal

pub returns-else-first-at-clause-all : goal.returns-else-first-at-clause-all
returns-else-first-at-clause-all c = starts-after c.args.rows.now c.loop-self.self.next c.args.at c.index-rows-self.result c.requires.order (omega (arith, c.first.ensures.value))
