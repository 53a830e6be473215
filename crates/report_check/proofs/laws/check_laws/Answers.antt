use Rattle.report_check.proofs.Truth.{yes_is_truth}
use Rattle.report_check.proofs.laws.check_laws.Goals as goal

pub returns : goal.returns
returns c = yes_is_truth
