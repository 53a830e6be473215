use Rattle.fabric.proofs.RowFacts.{nat_subnet-lies}
use Rattle.fabric.proofs.rows.nat_subnet.Goals as goal

pub returns-clause-lies : goal.returns-clause-lies
returns-clause-lies c = nat_subnet-lies c.args.f.now c.network.result.now c.args.n c.nat_subnet.result c.network.ensures c.description.ensures.accepted c.requires.nat c.requires.live c.nat_subnet.ensures
