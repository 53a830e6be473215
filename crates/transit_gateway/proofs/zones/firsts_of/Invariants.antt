use Rattle.std.proofs.Common.{◌≡◌, map, take}
use Rattle.transit_gateway.specs.Zones.{first_of}
use Rattle.transit_gateway.proofs.zones.firsts_of.Given as goal

abbrev pub invariant-loop-attachment : goal.invariant-loop-attachment
invariant-loop-attachment l = l.firsts.items ≡ map (first_of l.n) (take l.attachment-index l.n.attachments)
