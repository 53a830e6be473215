use Rattle.std.proofs.Common.{◌≡◌, map, take}
use Rattle.vpc_model.specs.Lookup.{subnet_no}
use Rattle.vpc_model.specs.Step.Nat.{own_subnet}
use Rattle.fabric.proofs.sites.subnets_by_nat.Given as goal

abbrev pub invariant-loop-nat : goal.invariant-loop-nat
invariant-loop-nat l = l.subnets.items ≡ map (λ n. subnet_no l.n (own_subnet n.life)) (take l.nat-index l.n.nats)
