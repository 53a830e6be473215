use Rattle.std.proofs.Common.{◌≡◌, take}
use Rattle.std.specs.List.{flat_map}
use Rattle.security_groups.specs.NumberKeys.{both_keys, numbers_if}
use Rattle.security_groups.proofs.peers.peers_of.Given as goal

abbrev pub invariant-loop-peering : goal.invariant-loop-peering
invariant-loop-peering l = l.keys.items ≡ flat_map (λ x. both_keys (numbers_if l.ids x.pair)) (take l.peering-index l.n.peerings)
