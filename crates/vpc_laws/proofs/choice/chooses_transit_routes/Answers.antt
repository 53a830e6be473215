use Rattle.vpc_laws.proofs.Rows.{tgw_routes_are_chosen}
use Rattle.vpc_laws.proofs.choice.chooses_transit_routes.Goals as goal

pub returns : goal.returns
returns c = tgw_routes_are_chosen
