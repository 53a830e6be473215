use Rattle.std.proofs.Common.{take}
use Rattle.listing_check.proofs.FirstDue.{IsFoundIn}
use Rattle.listing_check.specs.Due.{IsDue}
use Rattle.listing_check.proofs.due.first_due.Given as goal

abbrev pub invariant-loop-part : goal.invariant-loop-part
invariant-loop-part g l = IsFoundIn (IsDue (g.L.Listing.told l.listing) (take l.part-index l.asked)) l.gap l.found
