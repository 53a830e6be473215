use Rattle.vpc_laws.proofs.Passing.{packets_pass_by_groups}
use Rattle.vpc_laws.proofs.steps.passes_by_groups.Goals as goal

pub returns : goal.returns
returns c = packets_pass_by_groups
