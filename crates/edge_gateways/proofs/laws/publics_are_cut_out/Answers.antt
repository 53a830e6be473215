use Rattle.edge_gateways.proofs.Standing.{publics_are_cut_out}
use Rattle.edge_gateways.proofs.laws.publics_are_cut_out.Goals as goal

pub returns : goal.returns
returns c = publics_are_cut_out
