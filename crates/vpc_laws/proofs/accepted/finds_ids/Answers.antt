use Rattle.vpc_laws.proofs.Numbering.{ids_are_found}
use Rattle.vpc_laws.proofs.accepted.finds_ids.Goals as goal

pub returns : goal.returns
returns c = ids_are_found
