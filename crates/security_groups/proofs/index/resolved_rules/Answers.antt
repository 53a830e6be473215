use Rattle.security_groups.proofs.SetLemmas.{sets-asked}
use Rattle.security_groups.proofs.index.resolved_rules.Goals as goal

pub returns : goal.returns
returns c =
    sets-asked c.args.n.now c.in_ok-named.named.naming.vpcs.ids c.place_all.new.further c.place_all.new.interfaces.items c.in_ok-sets.sets.items c.in_ok-place_all.ensures.sets c.in_ok-sets.ensures
