use Rattle.flow_check.proofs.Agreeing.{accept_means}
use Rattle.flow_check.proofs.laws.accept_means.Goals as goal

pub returns : goal.returns
returns c = accept_means
