use Rattle.network_acls.proofs.Standing.{tried_rows_are_standing}
use Rattle.network_acls.proofs.laws.tried_rows_are_standing.Goals as goal

pub returns : goal.returns
returns c = tried_rows_are_standing
