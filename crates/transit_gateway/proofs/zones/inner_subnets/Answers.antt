use Rattle.std.proofs.Common.{sym}
use Rattle.transit_gateway.proofs.InZones.{all-described}
use Rattle.transit_gateway.proofs.zones.inner_subnets.Goals as goal

pub returns-in-Some-clause-described : goal.returns-in-Some-clause-described
returns-in-Some-clause-described c = all-described c.args.n.now c.args.attachment.now c.bytes.result.now c.as_slice.result.now c.description.ensures.accepted c.requires c.bytes.ensures.value (sym c.in-Some.ensures.found) c.as_slice.ensures
