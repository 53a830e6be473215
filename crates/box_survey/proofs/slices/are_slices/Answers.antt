use Rattle.std.proofs.Common.{◌∙◌, sym}
use Rattle.box_survey.proofs.Slicing.{slices_are}
use Rattle.box_survey.proofs.slices.are_slices.Goals as goal

pub returns-then-are_slices_along : goal.returns-then-are_slices_along
returns-then-are_slices_along c t =
    slices_are c.args.boxes.now _ c.args.cell.now c.args.numbers.now (sym c.are_slices_along.ensures ∙ c.if-are_slices_along.true)
