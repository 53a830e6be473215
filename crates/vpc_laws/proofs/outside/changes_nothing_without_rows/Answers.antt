use Rattle.vpc_laws.proofs.Beyond.{nothing_beyond}
use Rattle.vpc_laws.proofs.outside.changes_nothing_without_rows.Goals as goal

pub returns : goal.returns
returns c = nothing_beyond
