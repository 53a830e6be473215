use Rattle.box_survey.proofs.Fullest.{AreFullest}
use Rattle.box_survey.proofs.cuts.fullest_side.Given as goal

abbrev pub invariant-loop-side : goal.invariant-loop-side
invariant-loop-side l = AreFullest l.boxes l.cell l.numbers l.fullest.side l.fullest.at.items l.side-index
