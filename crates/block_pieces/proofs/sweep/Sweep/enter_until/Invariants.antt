use Rattle.std.proofs.Common.{◌≤◌, ◌-◌, length}
use Rattle.block_pieces.specs.Sweep.{IsSwept}
use Rattle.block_pieces.proofs.sweep.Sweep.enter_until.Given as goal

abbrev pub invariant-loop-self : goal.invariant-loop-self
invariant-loop-self l = IsSwept l.rows l.self × (l.self.at ≤ l.at)

abbrev pub decreases-loop-self : goal.decreases-loop-self
decreases-loop-self l = length l.rows - l.self.next
