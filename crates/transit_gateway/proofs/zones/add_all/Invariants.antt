use Rattle.std.proofs.Common.{◌≡◌, ◌++◌, map, take}
use Rattle.transit_gateway.specs.Zones.{zone_entry}
use Rattle.transit_gateway.proofs.zones.add_all.Given as goal

abbrev pub invariant-loop-id : goal.invariant-loop-id
invariant-loop-id l = l.entries.items ≡ l.initial.entries.items ++ map (zone_entry l.n l.number) (take l.id-index l.ids)
