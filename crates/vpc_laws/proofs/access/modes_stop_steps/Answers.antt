use Rattle.vpc_laws.proofs.Opened.{step_at-or}
use Rattle.vpc_laws.proofs.access.modes_stop_steps.Goals as goal

pub returns : goal.returns
returns c = λ d appliances label m. step_at-or d appliances label m.place m
