use Rattle.std.proofs.Common.{◌++◌, ◌≡◌, length, map}
use Rattle.report_reader.specs.Reports.{pieces_of}
use Rattle.report_reader.proofs.reading.pieces_of.Given as goal

abbrev pub invariant-loop-piece : goal.invariant-loop-piece
invariant-loop-piece l = map (λ p. p.now) l.pieces.items ++ pieces_of l.rest ≡ pieces_of l.text

abbrev pub decreases-loop-piece : goal.decreases-loop-piece
decreases-loop-piece l = length l.rest
