use Rattle.journey_changes.proofs.Telling.{changes_are_tellable}
use Rattle.journey_changes.proofs.laws.changes_are_tellable.Goals as goal

pub returns : goal.returns
returns c = changes_are_tellable
