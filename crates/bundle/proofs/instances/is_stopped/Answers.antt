use Rattle.std.proofs.Common.{◌∙◌, ap, is_some}
use Rattle.reference_check.specs.FirstNumbers.{number_in}
use Rattle.bundle.proofs.Listed.{numbered_are_listed}
use Rattle.bundle.proofs.instances.is_stopped.Goals as goal

pub returns : goal.returns
returns c stopped are =
    c.is_some.ensures ∙ ap is_some (c.get.ensures ∙ ap (number_in c.args.numbers.now) c.bytes.ensures.value) ∙ numbered_are_listed c.args.numbers.now stopped c.args.id.now are
