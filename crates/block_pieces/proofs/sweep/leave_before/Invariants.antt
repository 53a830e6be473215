use Rattle.std.proofs.Common.{vec_len}
use Rattle.block_pieces.proofs.Walking.{HasLeft}
use Rattle.block_pieces.proofs.sweep.leave_before.Given as goal

abbrev pub invariant-loop-around : goal.invariant-loop-around
invariant-loop-around l = HasLeft l.initial.around.items l.around.items l.at

abbrev pub decreases-loop-around : goal.decreases-loop-around
decreases-loop-around l = vec_len l.around
