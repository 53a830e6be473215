use Rattle.box_survey.proofs.Fullest.{cut_or_holder}
use Rattle.box_survey.proofs.cuts.cut_of.Goals as goal

pub returns : goal.returns
returns c =
    cut_or_holder c.args.boxes.now c.args.cell.now c.args.numbers.now c.in_ok-ends.ends.side c.in_ok-ends.ends.at.items c.median.result c.requires.some
    c.in_ok-ends.ensures.cuts c.in_ok-ends.ensures.none c.median.ensures.none c.median.ensures.some
