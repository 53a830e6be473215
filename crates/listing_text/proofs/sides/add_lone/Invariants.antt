use Rattle.std.proofs.Common.{◌≡◌, ◌++◌, filter, map, not, take}
use Rattle.address_sets.specs.Runs.{is_in}
use Rattle.listing_text.specs.Sides.{alone}
use Rattle.listing_text.proofs.sides.add_lone.Given as goal

abbrev pub invariant-loop-address : goal.invariant-loop-address
invariant-loop-address l = l.sides.items ≡ l.initial.sides.items ++ map alone (filter (λ a. not (is_in a l.set)) (take l.address-index l.addresses))
