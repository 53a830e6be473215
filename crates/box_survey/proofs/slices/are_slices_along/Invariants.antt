use Rattle.std.proofs.Common.{◌≡◌, drop}
use Rattle.box_survey.specs.Cuts.{range_on}
use Rattle.box_survey.specs.Slices.{slice_from}
use Rattle.box_survey.proofs.slices.are_slices_along.Given as goal

-- the remaining boxes slice what is left of the cell where all of them slice the cell
abbrev pub invariant-loop-i : goal.invariant-loop-i
invariant-loop-i l = slice_from l.boxes l.side l.cell l.from (drop l.i-index l.numbers) ≡ slice_from l.boxes l.side l.cell (range_on l.side l.cell).0 l.numbers
