use Rattle.std.proofs.Common.{◌≡◌, ◌+◌, ◌++◌, drop}
use Rattle.block_report.specs.Replays.{event_lines_from}
use Rattle.block_report.proofs.replays.put_replay.Given as goal

abbrev pub invariant-loop-outcome : goal.invariant-loop-outcome
invariant-loop-outcome l = record {
  numbered : l.number ≡ l.outcome-index + 1;
  rest : l.out.items ++ event_lines_from l.n l.number (drop l.outcome-index l.outcomes) ≡ l.fn.out.items ++ event_lines_from l.n 1 l.outcomes;
}
