use Rattle.vpc_laws.proofs.Flow.{steps_lead_on}
use Rattle.vpc_laws.proofs.steps.leads_on.Goals as goal

pub returns : goal.returns
returns c = steps_lead_on
