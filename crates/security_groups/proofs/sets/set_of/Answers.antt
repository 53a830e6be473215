use Rattle.security_groups.proofs.SetLemmas.{key-further, keys-next}
use Rattle.security_groups.proofs.sets.set_of.Goals as goal

pub returns-in_ok-set-in-Some-clause-keys : goal.returns-in_ok-set-in-Some-clause-keys
returns-in_ok-set-in-Some-clause-keys c =
    keys-next c.args.n.now c.args.vpcs.now.ids c.args.further.now c.place.new.self c.args.group c.in-Some.vpc c.in_ok-place-in-Some.ensures.added c.requires.keys
    (key-further c.args.n.now c.args.vpcs.now.ids c.args.interface.now c.args.group c.in-Some.vpc c.further_vpc.result c.requires.group c.in-Some.is c.further_vpc.ensures)
