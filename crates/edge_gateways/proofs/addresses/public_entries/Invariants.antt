use Rattle.std.proofs.Common.{◌≡◌, map, take}
use Rattle.edge_gateways.specs.Pairs.{public_entry}
use Rattle.edge_gateways.proofs.addresses.public_entries.Given as goal

abbrev pub invariant-loop-pair : goal.invariant-loop-pair
invariant-loop-pair l = l.entries.items ≡ map public_entry (take l.pair-index l.pairs)
