use Rattle.vpc_laws.proofs.Rows.{routes_are_chosen}
use Rattle.vpc_laws.proofs.choice.chooses_routes.Goals as goal

pub returns : goal.returns
returns c = routes_are_chosen
