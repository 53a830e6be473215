use Rattle.std.proofs.Common.{◌≡◌, map, take}
use Rattle.vpc_model.specs.Lookup.{vpc_no}
use Rattle.fabric.proofs.sites.vpcs_by_subnet.Given as goal

abbrev pub invariant-loop-subnet : goal.invariant-loop-subnet
invariant-loop-subnet l = l.vpcs.items ≡ map (λ s. vpc_no l.n s.vpc) (take l.subnet-index l.n.subnets)
