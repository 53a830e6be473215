use Rattle.std.proofs.Common.{◌≡◌, map, take}
use Rattle.edge_gateways.specs.Pairs.{owner_entry}
use Rattle.edge_gateways.proofs.addresses.owner_entries.Given as goal

abbrev pub invariant-loop-pair : goal.invariant-loop-pair
invariant-loop-pair l = l.entries.items ≡ map owner_entry (take l.pair-index l.pairs)
