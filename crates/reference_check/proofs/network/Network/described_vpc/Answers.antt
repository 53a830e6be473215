use Rattle.reference_check.proofs.Beside.{vpc-lies}
use Rattle.reference_check.proofs.network.Network.described_vpc.Goals as goal

pub returns-clause-within : goal.returns-clause-within
returns-clause-within c = vpc-lies c.args.self.now _ c.vpc.result c.vpc.ensures.found c.vpc.ensures.number
