use Rattle.flow_check.proofs.AgreeingWalks.{accepted_lines_agree}
use Rattle.flow_check.proofs.laws.agrees_with_walks_that_pass.Goals as goal

pub returns : goal.returns
returns c = accepted_lines_agree
