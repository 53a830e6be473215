use Rattle.std.proofs.Common.{◌≡◌, take}
use Rattle.std.specs.List.{flat_map}
use Rattle.security_groups.specs.NumberKeys.{attached_keys}
use Rattle.security_groups.proofs.transit.attached_of.Given as goal

abbrev pub invariant-loop-attachment : goal.invariant-loop-attachment
invariant-loop-attachment l = l.keys.items ≡ flat_map (attached_keys l.ids l.letting.attachments l.letting.gateways) (take l.attachment-index l.n.attachments)
