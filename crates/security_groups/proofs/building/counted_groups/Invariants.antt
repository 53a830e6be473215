use Rattle.std.proofs.Common.{◌≡◌, [], slice_index_or, take}
use Rattle.std.specs.List.{filter_map}
use Rattle.security_groups.specs.Resolved.{counted}
use Rattle.security_groups.proofs.building.counted_groups.Given as goal

abbrev pub invariant-loop-id : goal.invariant-loop-id
invariant-loop-id l = l.numbers.items ≡ filter_map (counted l.n l.dir (slice_index_or l.naming.vpcs.ids l.vpc [])) (take l.id-index l.ids)
