use Rattle.vpc_laws.proofs.Passing.{opens_pass_by_rules}
use Rattle.vpc_laws.proofs.steps.passes_allowed_opens.Goals as goal

pub returns : goal.returns
returns c = opens_pass_by_rules
