use Rattle.std.proofs.Common.{◌≡◌, map, take}
use Rattle.listing_text.specs.Sides.{alone}
use Rattle.listing_text.proofs.sides.each_alone.Given as goal

abbrev pub invariant-loop-address : goal.invariant-loop-address
invariant-loop-address l = l.sides.items ≡ map alone (take l.address-index l.addresses)
