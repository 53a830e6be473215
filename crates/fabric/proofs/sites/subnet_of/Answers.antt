use Rattle.vpc_laws.proofs.Accepting.{accepted_has_all_named}
use Rattle.fabric.proofs.sites.subnet_of.Goals as goal

pub subnet_named-requires : goal.subnet_named-requires
subnet_named-requires c = (accepted_has_all_named c.args.n.now c.description.ensures.accepted).subnet_of_interface c.args.interface.now c.requires
