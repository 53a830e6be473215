use Rattle.std.proofs.Common.{◌≡◌, map, take}
use Rattle.transit_gateway.specs.Sites.{site_of}
use Rattle.transit_gateway.proofs.sites.sites_of.Given as goal

abbrev pub invariant-loop-subnet : goal.invariant-loop-subnet
invariant-loop-subnet l = l.sites.items ≡ map (site_of l.n) (take l.subnet-index l.n.subnets)
