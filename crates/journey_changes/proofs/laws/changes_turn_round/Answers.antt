use Rattle.journey_changes.proofs.LawLemmas.{changes_turn_round}
use Rattle.journey_changes.proofs.laws.changes_turn_round.Goals as goal

pub returns : goal.returns
returns c = changes_turn_round
