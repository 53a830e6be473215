use Rattle.cut_laws.proofs.Rows.{appliances_are_standing}
use Rattle.cut_laws.proofs.appliances_are_standing.Goals as goal

pub returns : goal.returns
returns c = appliances_are_standing
