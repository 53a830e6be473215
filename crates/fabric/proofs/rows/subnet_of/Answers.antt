use Rattle.fabric.proofs.SiteRows.{subnet-lies}
use Rattle.fabric.proofs.rows.subnet_of.Goals as goal

pub returns-clause-lies : goal.returns-clause-lies
returns-clause-lies c = subnet-lies c.args.f.now c.network.result.now c.args.i c.subnet_of.result c.network.ensures c.description.ensures.accepted c.requires c.subnet_of.ensures
