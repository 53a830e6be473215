use Rattle.std.proofs.Common.{◌≡◌, ◌++◌, take}
use Rattle.std.specs.List.{flat_map}
use Rattle.vpc_model.specs.Lookup.{both_addresses}
use Rattle.listing_text.proofs.sides.add_pairs.Given as goal

abbrev pub invariant-loop-pair : goal.invariant-loop-pair
invariant-loop-pair l = l.addresses.items ≡ l.initial.addresses.items ++ flat_map both_addresses (take l.pair-index l.pairs)
