use Rattle.std.proofs.Common.{None, Some, subst}
use Rattle.vpc_base.proofs.Results.{if_ok}
use Rattle.box_survey.specs.Survey.{IsSurvey}
use Rattle.listing_check.proofs.Looked.{look_apart}
use Rattle.listing_check.specs.Due.{IsDue}
use Rattle.listing_check.specs.Found.{boxes_of}
use Rattle.listing_check.specs.Looks.{IsApartLook, IsLook, listed_by}
use Rattle.listing_check.proofs.looks.look_of.Goals as goal

pub returns-in-Uncovered : goal.returns-in-Uncovered
returns-in-Uncovered g c =
    let told = g.L.Listing.told c.args.listing.now in
    let boxes = c.args.asked.now in
    let rows = c.args.rows.now in
    let survey = subst (IsSurvey (IsDue told boxes) (boxes_of rows)) c.in-Uncovered.is c.in_ok-i.ensures in
    if_ok (IsApartLook told rows (Some c.in-Uncovered.h)) (IsLook (listed_by told boxes rows)) c.look_apart.result (λ look is. look_apart told boxes rows (Some c.in-Uncovered.h) look survey.0 survey.1 is)
    c.look_apart.ensures

pub returns-in-Whole : goal.returns-in-Whole
returns-in-Whole g c =
    let told = g.L.Listing.told c.args.listing.now in
    let boxes = c.args.asked.now in
    let rows = c.args.rows.now in
    let survey = subst (IsSurvey (IsDue told boxes) (boxes_of rows)) c.in-Whole.is c.in_ok-i.ensures in
    if_ok (IsApartLook told rows None) (IsLook (listed_by told boxes rows)) c.look_apart-in-Whole.result (λ look is. look_apart told boxes rows None look survey.0 survey.1 is) c.look_apart-in-Whole.ensures
