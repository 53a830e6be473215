use Rattle.fabric.proofs.SiteRows.{vpc-lies}
use Rattle.fabric.proofs.rows.vpc_of.Goals as goal

pub returns-clause-lies : goal.returns-clause-lies
returns-clause-lies c = vpc-lies c.args.f.now c.network.result.now c.args.s c.vpc_of.result c.network.ensures c.description.ensures.accepted c.requires c.vpc_of.ensures
