use Rattle.std.proofs.Common.{◌≡◌, ◌≤◌, ◌<◌, ◌-◌, ◌*◌, ◌^◌, length, slice_index_or}
use Rattle.piece_table.specs.Pieces.{first_of, told_of}
use Rattle.piece_table.proofs.table.Pieces.find.Given as goal

abbrev pub invariant-loop-high : goal.invariant-loop-high
invariant-loop-high g l = record {
  apart : l.low < l.high;
  within : l.high ≤ length l.self.firsts;
  first : l.first ≡ first_of l.self l.low;
  told : l.told ≡ told_of l.self l.low;
  last : l.last ≡ slice_index_or l.self.firsts l.high (2 ^ 32) - 1;
  from : l.first ≤ l.x;
  after : l.x < slice_index_or l.self.firsts l.high (2 ^ 32);
  later : l.fn.steps ≤ l.steps;
  width : 2 ^ (l.steps - l.fn.steps) * (l.high - l.low - 1) ≤ 2 * length l.self.firsts;
  few : 2 ^ (l.steps - l.fn.steps) ≤ 4 * length l.self.firsts;
}

abbrev pub decreases-loop-high : goal.decreases-loop-high
decreases-loop-high g l = l.high - l.low
