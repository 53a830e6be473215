use Rattle.journey_changes.proofs.LawLemmas.{nothing_changes_in_one}
use Rattle.journey_changes.proofs.laws.nothing_changes_in_one.Goals as goal

pub returns : goal.returns
returns c = nothing_changes_in_one
