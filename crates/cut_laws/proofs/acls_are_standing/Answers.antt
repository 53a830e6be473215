use Rattle.cut_laws.proofs.Rows.{acls_are_standing}
use Rattle.cut_laws.proofs.acls_are_standing.Goals as goal

pub returns : goal.returns
returns c = acls_are_standing
