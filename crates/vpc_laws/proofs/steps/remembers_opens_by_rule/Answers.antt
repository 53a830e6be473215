use Rattle.vpc_laws.proofs.Passing.{rules_are_remembered}
use Rattle.vpc_laws.proofs.steps.remembers_opens_by_rule.Goals as goal

pub returns : goal.returns
returns c = rules_are_remembered
