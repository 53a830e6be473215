use Rattle.unused_rules.proofs.Removing.{without_is_accepted}
use Rattle.unused_rules.proofs.laws.removals_are_accepted.Goals as goal

pub returns : goal.returns
returns c = without_is_accepted
