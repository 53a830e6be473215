use Rattle.std.proofs.Common.{◌≡◌, map, take}
use Rattle.vpc_model.specs.Lookup.{subnet_no}
use Rattle.fabric.proofs.sites.subnets_by_interface.Given as goal

abbrev pub invariant-loop-interface : goal.invariant-loop-interface
invariant-loop-interface l = l.subnets.items ≡ map (λ e. subnet_no l.n e.subnet) (take l.interface-index l.n.interfaces)
