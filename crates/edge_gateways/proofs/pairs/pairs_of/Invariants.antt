use Rattle.std.proofs.Common.{◌≡◌, ◌<◌, ◌^◌, All, take}
use Rattle.std.specs.List.{flat_map}
use Rattle.edge_gateways.specs.Pairs.{pairs_with}
use Rattle.edge_gateways.proofs.pairs.pairs_of.Given as goal

abbrev pub invariant-loop-interface : goal.invariant-loop-interface
invariant-loop-interface l = (l.pairs.items ≡ flat_map (pairs_with l.n) (take l.interface-index l.n.interfaces)) × All (λ p. p.owner.own < 2 ^ 32) l.pairs.items
