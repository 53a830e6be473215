use Rattle.fabric.proofs.RowFacts.{acl-lies}
use Rattle.packet_emulator.proofs.crossing.entering.Goals as goal

pub acl-requires : goal.acl-requires
acl-requires c = acl-lies c.args.f.now c.network-n.result.now c.args.s c.acl_of-a.result c.network-n.ensures c.description.ensures.accepted c.requires c.acl_of-a.ensures
