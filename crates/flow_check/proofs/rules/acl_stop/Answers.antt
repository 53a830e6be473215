use Rattle.fabric.proofs.RowFacts.{acl-lies}
use Rattle.flow_check.proofs.rules.acl_stop.Goals as goal

pub acl-requires : goal.acl-requires
acl-requires c = acl-lies c.args.f.now c.network-n.result.now c.subnet_of.result c.acl_of-a.result c.network-n.ensures c.description.ensures.accepted c.subnet_of.ensures.lies c.acl_of-a.ensures
