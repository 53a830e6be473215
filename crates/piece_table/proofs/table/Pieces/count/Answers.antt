use Rattle.std.proofs.Common.{arith}
use Rattle.piece_table.proofs.PieceLemmas.{length-firsts-le}
use Rattle.piece_table.proofs.table.Pieces.count.Goals as goal

pub returns-clause-fits : goal.returns-clause-fits
returns-clause-fits c = let le = length-firsts-le _ c.self.invariant in omega (arith, le)
