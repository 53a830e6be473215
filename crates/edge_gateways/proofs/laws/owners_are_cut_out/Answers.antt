use Rattle.edge_gateways.proofs.Standing.{owners_are_cut_out}
use Rattle.edge_gateways.proofs.laws.owners_are_cut_out.Goals as goal

pub returns : goal.returns
returns c = owners_are_cut_out
