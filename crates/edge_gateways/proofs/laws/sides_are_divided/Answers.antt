use Rattle.edge_gateways.proofs.Standing.{sides_are_divided}
use Rattle.edge_gateways.proofs.laws.sides_are_divided.Goals as goal

pub returns : goal.returns
returns c = sides_are_divided
