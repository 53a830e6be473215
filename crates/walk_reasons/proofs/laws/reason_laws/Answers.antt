use Rattle.walk_reasons.proofs.Explaining.{decisions_explain}
use Rattle.walk_reasons.proofs.KeptLines.{trace_is_kept}
use Rattle.walk_reasons.proofs.Telling.{rewriting_is_told}
use Rattle.walk_reasons.proofs.laws.reason_laws.Goals as goal

pub returns-clause-trace : goal.returns-clause-trace
returns-clause-trace c = trace_is_kept

pub returns-clause-steps : goal.returns-clause-steps
returns-clause-steps c = decisions_explain

pub returns-clause-headers : goal.returns-clause-headers
returns-clause-headers c = rewriting_is_told
