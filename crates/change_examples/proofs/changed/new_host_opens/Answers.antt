-- It computes, once the digits of numbers do.
use Rattle.std.proofs.Common.{refl}
use Rattle.std.specs.Fmt.{digits}
use Rattle.change_examples.proofs.changed.new_host_opens.Goals as goal

pub returns : goal.returns
unfolding digits
returns c = (refl, (refl, refl))
