use Rattle.box_survey.specs.Survey.{IsFirstMattering}
use Rattle.std.proofs.Common.{None}
use Rattle.vpc_base.proofs.Results.{if_ok}
use Rattle.listing_check.proofs.FirstDue.{told_in_common}
use Rattle.listing_check.specs.Due.{IsToldIn}
use Rattle.listing_check.specs.Looks.{IsOther}
use Rattle.listing_check.proofs.due.first_told.Goals as goal

pub returns-in-None : goal.returns-in-None
returns-in-None g c = λ h inside tells. c.in-None.ensures.none h tells.0 inside

pub returns-in-Some : goal.returns-in-Some
returns-in-Some g c =
    let told = g.L.Listing.told c.args.listing.now in
    let part = c.args.part.now in
    let gap = c.args.gap.now in
    let common = c.in-Some.common in
    if_ok (IsOther told None common) (IsFirstMattering (IsToldIn told part) gap) c.first_other.result (told_in_common told part gap common c.in-Some.ensures.holds) c.first_other.ensures
