use Rattle.vpc_laws.proofs.Accepting.{accepted_has_all_named}
use Rattle.transit_gateway.proofs.sites.site_of.Goals as goal

pub vpc_named-requires : goal.vpc_named-requires
vpc_named-requires c = (accepted_has_all_named c.args.n.now c.description.ensures.accepted).vpc_of_subnet c.args.subnet.now c.requires.listed
