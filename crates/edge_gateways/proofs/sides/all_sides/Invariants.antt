use Rattle.std.proofs.Common.{◌≡◌, map, take}
use Rattle.edge_gateways.specs.Sides.{sides_of}
use Rattle.edge_gateways.proofs.sides.all_sides.Given as goal

abbrev pub invariant-loop-peering : goal.invariant-loop-peering
invariant-loop-peering l = l.sides.items ≡ map (sides_of l.n) (take l.peering-index l.n.peerings)
