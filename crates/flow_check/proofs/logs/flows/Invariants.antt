use Rattle.std.proofs.Common.{◌+◌, ◌≡◌, ◌≤◌, length}
use Rattle.query_words.specs.Events.{lines_of}
use Rattle.flow_check.specs.Flows.{flows_of, told_by}
use Rattle.flow_check.specs.Steps.{AreBelow}
use Rattle.flow_check.proofs.Tallies.{told_from}
use Rattle.flow_check.proofs.logs.flows.Given as goal

abbrev pub invariant-loop-rest : goal.invariant-loop-rest
invariant-loop-rest l = record {
  told : told_from l.f (told_by l.answer) l.number (lines_of l.rest) ≡ flows_of l.f l.text;
  short : l.number + length l.rest ≤ 1 + length l.text;
  few : AreBelow l.number l.answer.counts;
}

abbrev pub decreases-loop-rest : goal.decreases-loop-rest
decreases-loop-rest l = length l.rest
