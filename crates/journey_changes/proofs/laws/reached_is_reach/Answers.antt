use Rattle.journey_changes.proofs.LawLemmas.{reached_is_reach}
use Rattle.journey_changes.proofs.laws.reached_is_reach.Goals as goal

pub returns : goal.returns
returns c = reached_is_reach
