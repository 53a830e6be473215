use Rattle.vpc_examples.proofs.Parts.{down-aligned, down-is_none, down-report, up-is_report}
use Rattle.vpc_examples.proofs.reports.ascends.Goals as goal

pub returns : goal.returns
returns c = (up-is_report, (down-report, (down-aligned, down-is_none)))
