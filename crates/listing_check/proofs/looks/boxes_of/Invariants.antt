use Rattle.std.proofs.Common.{◌≡◌, take}
use Rattle.listing_check.specs.Found.{boxes_of}
use Rattle.listing_check.proofs.looks.boxes_of.Given as goal

abbrev pub invariant-loop-row : goal.invariant-loop-row
invariant-loop-row l = l.boxes.items ≡ boxes_of (take l.row-index l.rows)
