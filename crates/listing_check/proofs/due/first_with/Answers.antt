use Rattle.listing_check.proofs.FirstDue.{with_none, with_some}
use Rattle.listing_check.proofs.due.first_with.Goals as goal

pub returns-in-None : goal.returns-in-None
returns-in-None g c =
    with_none (g.L.Listing.told c.args.listing.now) c.args.part.now c.args.gap.now c.args.found (rw c.in-None.is at c.in_ok-first_told.ensures)

pub returns-in-Some : goal.returns-in-Some
returns-in-Some g c =
    with_some (g.L.Listing.told c.args.listing.now) c.args.part.now c.args.gap.now c.args.found c.in-Some.h c.earlier.result (rw c.in-Some.is at c.in_ok-first_told.ensures)
    c.earlier.ensures.either c.earlier.ensures.upto_new c.earlier.ensures.upto_found
