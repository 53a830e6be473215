use Rattle.std.proofs.Common.{◌≡◌, ◌++◌, ◌<◌, ◌^◌, All, map, take}
use Rattle.std.specs.List.{filter_map}
use Rattle.vpc_model.specs.Internet.{pair_of}
use Rattle.edge_gateways.specs.Pairs.{in_vpc}
use Rattle.edge_gateways.proofs.pairs.add_pairs.Given as goal

abbrev pub invariant-loop-address : goal.invariant-loop-address
invariant-loop-address l =
    (l.pairs.items ≡ l.initial.pairs.items ++ map (in_vpc l.vpc) (filter_map pair_of (take l.address-index l.addresses)))
    × (All (λ p. p.owner.own < 2 ^ 32) l.initial.pairs.items → All (λ p. p.owner.own < 2 ^ 32) l.pairs.items)
