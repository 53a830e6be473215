use Rattle.std.proofs.Common.{◌≡◌, map, take}
use Rattle.fabric.specs.Sites.{ends_by}
use Rattle.fabric.proofs.sites.ends_by_peering.Given as goal

abbrev pub invariant-loop-peering : goal.invariant-loop-peering
invariant-loop-peering l = l.ends.items ≡ map (λ x. ends_by l.n x.pair) (take l.peering-index l.n.peerings)
