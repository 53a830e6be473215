use Rattle.cut_laws.proofs.Rows.{vpcs_are_standing}
use Rattle.cut_laws.proofs.vpcs_are_standing.Goals as goal

pub returns : goal.returns
returns c = vpcs_are_standing
