use Rattle.fabric.proofs.Entrances.{table-of_network}
use Rattle.fabric.proofs.network.Fabric.network_table.Goals as goal

pub returns : goal.returns
returns c = table-of_network c.args.self.now c.args.k c.outside.result.now.networks c.network_table.result c.outside.ensures.networks c.requires c.network_table.ensures
