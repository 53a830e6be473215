use Rattle.cut_laws.proofs.Rows.{interfaces_are_standing}
use Rattle.cut_laws.proofs.interfaces_are_standing.Goals as goal

pub returns : goal.returns
returns c = interfaces_are_standing
