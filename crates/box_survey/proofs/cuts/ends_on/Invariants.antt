use Rattle.std.proofs.Common.{take}
use Rattle.box_survey.specs.Cuts.{AreEnds}
use Rattle.box_survey.proofs.cuts.ends_on.Given as goal

abbrev pub invariant-loop-i : goal.invariant-loop-i
invariant-loop-i l = AreEnds l.boxes l.cell l.side (take l.i-index l.numbers) l.ends.items
