use Rattle.std.proofs.Common.{◌≡◌, All, take}
use Rattle.header_boxes.specs.Rows.{HasWord}
use Rattle.listing_check.proofs.untrue.first_untrue.Given as goal

abbrev pub invariant-loop-row : goal.invariant-loop-row
invariant-loop-row g l = record {
  number : l.number ≡ l.row-index;
  before : All (HasWord (g.L.Listing.told l.listing)) (take l.row-index l.rows);
}
