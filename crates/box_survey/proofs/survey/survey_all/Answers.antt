use Rattle.box_survey.proofs.Answer.{findings_of_hull}
use Rattle.box_survey.proofs.Numbers.{candidates_all}
use Rattle.box_survey.proofs.survey.survey_all.Goals as goal

pub survey_cell-requires-clause-candidates : goal.survey_cell-requires-clause-candidates
survey_cell-requires-clause-candidates g c = rw (c.as_slice.ensures.value, c.in_ok-numbers.ensures) (candidates_all c.args.boxes.now c.hull-all.result)

pub returns : goal.returns
returns g c =
    findings_of_hull (g.G.Gaps.matters c.args.gaps.now) c.args.boxes.now c.hull.result c.hull-all.result _ c.survey_cell.new.found c.hull.ensures.holds c.hull-all.ensures.whole c.hull-all.ensures.boxes
    c.in_ok-survey_cell.ensures
