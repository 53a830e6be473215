use Rattle.std.proofs.Common.{◌≡◌, ◌++◌, drop}
use Rattle.transit_gateway.specs.Zones.{zone_entries}
use Rattle.transit_gateway.proofs.zones.zone_entries.Given as goal

abbrev pub invariant-loop-number : goal.invariant-loop-number
invariant-loop-number l = l.entries.items ++ zone_entries l.n l.number (drop l.number l.n.attachments) ≡ zone_entries l.n 0 l.n.attachments
