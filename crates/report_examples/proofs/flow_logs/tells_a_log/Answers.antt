-- It computes, once the digits of numbers do.
use Rattle.std.proofs.Common.{refl}
use Rattle.std.specs.Fmt.{digits}
use Rattle.report_examples.proofs.flow_logs.tells_a_log.Goals as goal

pub returns : goal.returns
unfolding digits
returns c = refl
