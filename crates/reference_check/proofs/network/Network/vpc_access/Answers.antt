use Rattle.std.proofs.Common.{◌≡◌, subst, sym, true}
use Rattle.vpc_laws.proofs.Accepting.{accepted_has_all_named}
use Rattle.vpc_laws.proofs.Numbering.{ids_are_found}
use Rattle.vpc_model.specs.Sound.{is_vpc}
use Rattle.vpc_model.specs.declared.numbers.VpcNo.{VpcNo}
use Rattle.reference_check.proofs.network.Network.vpc_access.Goals as goal

pub vpc_named-requires : goal.vpc_named-requires
vpc_named-requires c = (accepted_has_all_named c.args.self.now c.description.ensures.accepted).vpc_of_subnet c.args.subnet.now c.requires

pub vpc_at-requires : goal.vpc_at-requires
vpc_at-requires c =
    let d = c.args.self.now in
    let has = (accepted_has_all_named d c.description.ensures.accepted).vpc_of_subnet c.args.subnet.now c.requires in
    subst (λ (v : VpcNo). is_vpc d v ≡ true) (sym c.vpc_named.ensures) ((ids_are_found d).vpc c.args.subnet.now.vpc has).0
