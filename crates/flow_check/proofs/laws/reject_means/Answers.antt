use Rattle.flow_check.proofs.Agreeing.{reject_means}
use Rattle.flow_check.proofs.laws.reject_means.Goals as goal

pub returns : goal.returns
returns c = reject_means
