use Rattle.std.proofs.Common.{◌≡◌, map, take}
use Rattle.vpc_model.specs.Access.{access_in}
use Rattle.fabric.proofs.sites.accesses_by_subnet.Given as goal

abbrev pub invariant-loop-subnet : goal.invariant-loop-subnet
invariant-loop-subnet l = l.accesses.items ≡ map (access_in l.n) (take l.subnet-index l.n.subnets)
