-- It computes, once the digits of numbers do.
use Rattle.std.proofs.Common.{refl}
use Rattle.std.specs.Fmt.{digits}
use Rattle.report_examples.proofs.flow_logs.needs_no_last_newline.Goals as goal

pub returns : goal.returns
unfolding digits
returns c = refl
