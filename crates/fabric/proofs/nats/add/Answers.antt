use Rattle.fabric.proofs.NatRows.{nat-interface}
use Rattle.fabric.proofs.nats.add.Goals as goal

pub eni_named-requires : goal.eni_named-requires
eni_named-requires c = nat-interface c.args.n.now c.args.nat.now _ c.in-Live.eni _ c.description.ensures.accepted c.requires c.in-Live.is
