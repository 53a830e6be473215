use Rattle.std.proofs.Common.{◌≡◌, ◌++◌, drop}
use Rattle.transit_gateway.specs.Gateways.{attachment_entries}
use Rattle.transit_gateway.proofs.gateways.attachment_entries.Given as goal

abbrev pub invariant-loop-number : goal.invariant-loop-number
invariant-loop-number l = l.entries.items ++ attachment_entries l.n l.number (drop l.number l.n.attachments) ≡ attachment_entries l.n 0 l.n.attachments
