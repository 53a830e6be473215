use Rattle.std.proofs.Common.{◌≡◌, take}
use Rattle.std.specs.List.{filter_map}
use Rattle.security_groups.specs.Resolved.{list_no}
use Rattle.security_groups.proofs.building.list_numbers.Given as goal

abbrev pub invariant-loop-id : goal.invariant-loop-id
invariant-loop-id l = l.numbers.items ≡ filter_map (list_no l.n) (take l.id-index l.ids)
