use Rattle.journey_changes.proofs.LawLemmas.{all_is_opened_from_nothing}
use Rattle.journey_changes.proofs.laws.all_is_opened_from_nothing.Goals as goal

pub returns : goal.returns
returns c = all_is_opened_from_nothing
