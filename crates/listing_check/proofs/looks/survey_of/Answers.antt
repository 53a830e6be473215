use Rattle.std.proofs.Common.{All, IfOk, List, Option, ap, subst, sym, ◌∙◌, ℕ}
use Rattle.vpc_base.specs.declared.headers.Header.{Header}
use Rattle.box_survey.specs.Survey.{IsSurvey}
use Rattle.header_boxes.specs.Boxes.{IsValid}
use Rattle.header_boxes.specs.declared.boxes.Box5.{Box5}
use Rattle.report_check.proofs.Boxes.{valid_parts}
use Rattle.listing_check.specs.Due.{IsDue}
use Rattle.listing_check.proofs.looks.survey_of.Goals as goal

pub surveyed-requires-clause-boxes : goal.surveyed-requires-clause-boxes
surveyed-requires-clause-boxes g c =
    let copied = c.as_slice.ensures.value ∙ c.in_ok-boxes.ensures in
    subst (All IsValid) (sym copied) (valid_parts c.args.rows.now c.requires.rows)

pub returns : goal.returns
returns g c =
    let told = g.L.Listing.told c.args.listing.now in
    let r = c.surveyed.result in
    let copied = c.as_slice.ensures.value ∙ c.in_ok-boxes.ensures in
    subst (λ (boxes : List Box5). IfOk r (IsSurvey (IsDue told c.args.asked.now) boxes)) copied
    (subst (λ (asked : List Box5). IfOk r (IsSurvey (IsDue told asked) c.as_slice.result.now)) c.of-due.ensures.asked
    (subst (λ (t : Header → Option (List ℕ)). IfOk r (IsSurvey (IsDue t c.of-due.result.asked.now) c.as_slice.result.now)) (ap g.L.Listing.told c.of-due.ensures.listing) c.surveyed.ensures))
