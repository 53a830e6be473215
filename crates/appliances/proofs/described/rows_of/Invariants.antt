use Rattle.std.proofs.Common.{◌≡◌, filter, map, take}
use Rattle.vpc_model.specs.Appliances.{boxes_of_kind, is_at_interface}
use Rattle.vpc_model.specs.Lookup.{eni_no}
use Rattle.appliances.proofs.described.rows_of.Given as goal

abbrev pub invariant-loop-appliance : goal.invariant-loop-appliance
invariant-loop-appliance l =
    l.rows.items ≡ map (λ a. (eni_no l.n a.id, boxes_of_kind a.kind)) (filter (λ a. is_at_interface a.at) (take l.appliance-index l.appliances))
