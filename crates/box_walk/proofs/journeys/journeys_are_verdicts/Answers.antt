use Rattle.box_walk.proofs.JourneyLemmas.{journeys_are_verdicts}
use Rattle.box_walk.proofs.journeys.journeys_are_verdicts.Goals as goal

pub returns : goal.returns
returns c = journeys_are_verdicts
