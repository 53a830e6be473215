use Rattle.vpc_examples.proofs.Parts.{high-is_none, high-ordered, high-true, low-is_part, low-next}
use Rattle.vpc_examples.proofs.reports.leaves_nothing_before.Goals as goal

pub returns : goal.returns
returns c = (low-is_part, (high-true, (high-ordered, (low-next, high-is_none))))
