use Rattle.std.proofs.Common.{sym}
use Rattle.vpc_base.proofs.Results.{if_ok}
use Rattle.listing_check.proofs.Looked.{look_same}
use Rattle.listing_check.specs.Looks.{IsLook, asked_by}
use Rattle.listing_check.proofs.looks.look_at.Goals as goal

pub returns : goal.returns
returns g c = λ a boxes told.
    let known = asked_by (g.L.Listing.told c.args.listing.now) c.args.asked.now in
    let rows = c.args.rows.now in
    if_ok (IsLook (record { asked = known; rows = rows })) (IsLook (record { asked = a; rows = rows })) c.look_of.result (λ look is. look_same known a rows look (sym boxes) (λ h. sym (told h)) is) c.look_of.ensures
