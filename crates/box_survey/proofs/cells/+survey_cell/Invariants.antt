use Rattle.box_survey.specs.Cells.{extent_of}
use Rattle.box_survey.proofs.cells.+survey_cell.Given as goal

abbrev pub decreases-survey_cell : goal.decreases-survey_cell
decreases-survey_cell g l = extent_of l.cell.now
