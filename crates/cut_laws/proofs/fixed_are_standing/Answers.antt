use Rattle.cut_laws.proofs.Rows.{fixed_are_standing}
use Rattle.cut_laws.proofs.fixed_are_standing.Goals as goal

pub returns : goal.returns
returns c = fixed_are_standing
