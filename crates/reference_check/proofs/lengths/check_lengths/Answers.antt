use Rattle.std.proofs.Common.{subst}
use Rattle.reference_check.specs.Told.{Tells}
use Rattle.reference_check.proofs.LongLists.{long_by_part-is}
use Rattle.reference_check.proofs.lengths.check_lengths.Goals as goal

pub returns : goal.returns
returns c = subst (λ causes. Tells causes c.check_parts.result) (long_by_part-is c.args.d.now) c.check_parts.ensures
