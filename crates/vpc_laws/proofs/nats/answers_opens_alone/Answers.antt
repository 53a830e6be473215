use Rattle.vpc_laws.proofs.Gateways.{inward_answers_opens}
use Rattle.vpc_laws.proofs.nats.answers_opens_alone.Goals as goal

pub returns : goal.returns
returns c = inward_answers_opens
