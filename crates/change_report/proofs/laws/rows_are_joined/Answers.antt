use Rattle.change_report.proofs.JoinedLemmas.{rows_are_joined}
use Rattle.change_report.proofs.laws.rows_are_joined.Goals as goal

pub returns : goal.returns
returns c = rows_are_joined
