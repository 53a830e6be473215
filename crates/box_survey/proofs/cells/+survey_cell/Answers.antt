use Rattle.std.proofs.Common.{arith, sym, subst}
use Rattle.std.proofs.lemmas.Result.{on_ok_weaker}
use Rattle.box_survey.specs.Findings.{AreThere, IsSurveyed}
use Rattle.box_survey.proofs.Found.{surveyed_halves}
use Rattle.box_survey.proofs.Numbers.{candidates_of_part, meeting_of}
use Rattle.box_survey.proofs.cells.+survey_cell.Goals as goal

pub settle-requires-clause-numbers : goal.settle-requires-clause-numbers
settle-requires-clause-numbers g t c =
    rw (c.as_slice.ensures.value, c.in_ok-numbers.ensures) (meeting_of c.args.boxes.now c.args.cell.now c.args.candidates.now c.requires.candidates)

pub survey_cell-requires : goal.survey_cell-requires
survey_cell-requires g t c κs within =
    let boxes = c.args.boxes.now in
    let decreases = c.decreases in
    let narrower = c.halves.ensures.low_narrower in
    let meeting = meeting_of boxes c.args.cell.now c.args.candidates.now c.requires.candidates in
    let cut = rw c.in-Some.is at c.in_ok-cut.ensures in (
      omega (arith, decreases, narrower),
      (
        within,
        (
          c.halves.ensures.low_valid c.requires.valid,
          (rw (c.as_slice-2.ensures.value, c.in_ok-numbers.ensures) (candidates_of_part boxes c.args.cell.now c.halves.result.0 _ c.halves.ensures.low_within meeting.candidates), subst (AreThere (g.G.Gaps.matters c.args.gaps.now) boxes) (sym cut.1) c.requires.there),
        ),
      ),
    )

pub survey_cell-requires-2 : goal.survey_cell-requires-2
survey_cell-requires-2 g t c κs within =
    let boxes = c.args.boxes.now in
    let decreases = c.decreases in
    let narrower = c.halves.ensures.high_narrower in
    let meeting = meeting_of boxes c.args.cell.now c.args.candidates.now c.requires.candidates in (
      omega (arith, decreases, narrower),
      (
        within,
        (
          c.halves.ensures.high_valid c.requires.valid,
          (rw (c.as_slice-3.ensures.value, c.in_ok-numbers.ensures) (candidates_of_part boxes c.args.cell.now c.halves.result.1 _ c.halves.ensures.high_within meeting.candidates), c.in_ok-survey_cell.ensures.there),
        ),
      ),
    )

pub returns : goal.returns
returns g t c =
    let matters = g.G.Gaps.matters c.args.gaps.now in
    let boxes = c.args.boxes.now in
    let cut = rw c.in-Some.is at c.in_ok-cut.ensures in
    let low : IsSurveyed matters boxes c.halves.result.0 c.args.found.now c.survey_cell.new.found = subst (λ f. IsSurveyed matters boxes c.halves.result.0 f c.survey_cell.new.found) cut.1 c.in_ok-survey_cell.ensures in
    on_ok_weaker c.survey_cell-2.result (λ high. surveyed_halves matters boxes c.args.cell.now c.halves.result.0 c.halves.result.1 c.args.found.now c.survey_cell.new.found c.survey_cell-2.new.found c.halves.ensures low high) c.survey_cell-2.ensures
