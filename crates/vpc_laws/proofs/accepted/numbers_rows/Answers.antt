use Rattle.vpc_laws.proofs.Numbering.{accepted_numbers_are_own}
use Rattle.vpc_laws.proofs.accepted.numbers_rows.Goals as goal

pub returns : goal.returns
returns c = accepted_numbers_are_own
