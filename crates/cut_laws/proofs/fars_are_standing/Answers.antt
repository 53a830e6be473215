use Rattle.cut_laws.proofs.Rows.{fars_are_standing}
use Rattle.cut_laws.proofs.fars_are_standing.Goals as goal

pub returns : goal.returns
returns c = fars_are_standing
