use Rattle.vpc_laws.proofs.Accepting.{accepted_has_all_named}
use Rattle.appliances.proofs.described.row_of.Goals as goal

pub eni_named-requires : goal.eni_named-requires
eni_named-requires c = (accepted_has_all_named c.args.n.now c.description.ensures.accepted).interface_of_appliance c.args.appliance.now c.requires.described c.requires.interface
