use Rattle.vpc_laws.proofs.Modes as modes
use Rattle.vpc_laws.proofs.access.modes_stop_alone.Goals as goal

pub returns : goal.returns
returns c = λ d appliances start goal h. modes.modes_stop_alone d appliances start goal h
