use Rattle.std.proofs.Common.{◌≡◌, filter, map, take}
use Rattle.vpc_model.specs.Appliances.{is_at_interface}
use Rattle.appliances.proofs.described.Kinds.of.Given as goal

abbrev pub invariant-loop-appliance : goal.invariant-loop-appliance
invariant-loop-appliance l = l.kinds.items ≡ map (λ a. a.kind) (filter (λ a. is_at_interface a.at) (take l.appliance-index l.appliances))
