use Rattle.std.proofs.Common.{◌∙◌, IfOk, List, subst, sym}
use Rattle.std.specs.Prelude.{All}
use Rattle.box_survey.specs.Survey.{IsHeldIn, IsSurvey}
use Rattle.header_boxes.specs.Boxes.{IsValid}
use Rattle.vpc_laws.specs.Types.{Box5}
use Rattle.report_check.proofs.Boxes.{valid_boxes}
use Rattle.report_check.proofs.checked.survey_of.Goals as goal

pub surveyed-requires-clause-boxes : goal.surveyed-requires-clause-boxes
surveyed-requires-clause-boxes c =
    let copied = c.as_slice.ensures.value ∙ c.in_ok-boxes.ensures in
    subst (All IsValid) (sym copied) (valid_boxes c.args.sides c.args.rows.now c.requires.within)

pub returns : goal.returns
returns c =
    let copied = c.as_slice.ensures.value ∙ c.in_ok-boxes.ensures in
    subst (λ (boxes : List Box5). IfOk c.surveyed.result (IsSurvey (IsHeldIn c.args.sides) boxes)) copied
    (subst (λ (sides : Box5). IfOk c.surveyed.result (IsSurvey (IsHeldIn sides) c.as_slice.result.now)) c.of-whole.ensures c.surveyed.ensures)
