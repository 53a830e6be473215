use Rattle.std.proofs.Common.{◌≡◌, subst, sym, true}
use Rattle.vpc_laws.proofs.Accepting.{accepted_has_all_named}
use Rattle.vpc_laws.proofs.Numbering.{ids_are_found}
use Rattle.vpc_model.specs.Sound.{is_subnet}
use Rattle.vpc_model.specs.declared.numbers.SubnetNo.{SubnetNo}
use Rattle.reference_check.proofs.network.Network.subnet_of_interface.Goals as goal

pub subnet_named-requires : goal.subnet_named-requires
subnet_named-requires c =
    (accepted_has_all_named c.args.self.now c.description.ensures.accepted).subnet_of_interface c.args.interface.now c.requires

pub subnet_at-requires : goal.subnet_at-requires
subnet_at-requires c =
    let d = c.args.self.now in
    let has = (accepted_has_all_named d c.description.ensures.accepted).subnet_of_interface c.args.interface.now c.requires in
    subst (λ (s : SubnetNo). is_subnet d s ≡ true) (sym c.subnet_named.ensures) ((ids_are_found d).subnet c.args.interface.now.subnet has).0
