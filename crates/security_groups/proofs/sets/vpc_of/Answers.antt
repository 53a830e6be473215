use Rattle.std.proofs.Common.{◌≡◌, subst, sym, true}
use Rattle.vpc_laws.proofs.Lemmas.{accepted_has_all_named, ids_are_found}
use Rattle.vpc_model.specs.Sound.{is_subnet}
use Rattle.vpc_model.specs.declared.numbers.SubnetNo.{SubnetNo}
use Rattle.security_groups.proofs.sets.vpc_of.Goals as goal

pub subnet_named-subnet-requires : goal.subnet_named-subnet-requires
subnet_named-subnet-requires c = (accepted_has_all_named c.args.n.now c.description.ensures.accepted).subnet_of_interface c.args.interface.now c.requires

pub subnet_at-requires : goal.subnet_at-requires
subnet_at-requires c =
    let d = c.args.n.now in
    let has = (accepted_has_all_named d c.description.ensures.accepted).subnet_of_interface c.args.interface.now c.requires in
    subst (λ (s : SubnetNo). is_subnet d s ≡ true) (sym c.subnet_named-subnet.ensures) ((ids_are_found d).subnet c.args.interface.now.subnet has).0
