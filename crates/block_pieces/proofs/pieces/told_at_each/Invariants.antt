use Rattle.std.proofs.Common.{◌≡◌, ◌≤◌, ◌<◌, ℕ, length, map, slice_index, take}
use Rattle.block_pieces.specs.Told.{told_by}
use Rattle.block_pieces.specs.Sweep.{IsSwept}
use Rattle.block_pieces.proofs.pieces.told_at_each.Given as goal

abbrev pub invariant-loop-first : goal.invariant-loop-first
invariant-loop-first l =
    (l.told.items ≡ map (told_by l.rows) (take l.first-index l.firsts)) × IsSwept l.rows l.sweep
    × (l.first-index < length l.firsts → l.sweep.at ≤ slice_index l.firsts l.first-index)
