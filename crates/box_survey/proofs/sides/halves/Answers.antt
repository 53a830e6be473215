use Rattle.box_survey.proofs.Cut.{halves_by_cut}
use Rattle.box_survey.proofs.sides.halves.Goals as goal

pub returns : goal.returns
returns c = rw (c.halves_by_side.ensures.low, c.halves_by_side.ensures.high) (halves_by_cut c.args.cell.now c.args.cut c.requires)
