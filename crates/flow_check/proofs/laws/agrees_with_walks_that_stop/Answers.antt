use Rattle.flow_check.proofs.Agreeing.{rejected_lines_agree}
use Rattle.flow_check.proofs.laws.agrees_with_walks_that_stop.Goals as goal

pub returns : goal.returns
returns c = rejected_lines_agree
