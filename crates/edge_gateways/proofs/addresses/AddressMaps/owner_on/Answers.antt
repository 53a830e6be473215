use Rattle.edge_gateways.proofs.OnImages.{owner-answers}
use Rattle.edge_gateways.proofs.addresses.AddressMaps.owner_on.Goals as goal

pub returns : goal.returns
returns c = owner-answers c.args.self.now.owners c.args.i.now c.entry_on-entry.result c.parts_of.result c.parts_of.ensures c.entry_on-entry.ensures
