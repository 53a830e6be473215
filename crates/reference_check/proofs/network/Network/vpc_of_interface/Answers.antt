use Rattle.std.proofs.Common.{◌≡◌, subst, sym, true}
use Rattle.vpc_model.specs.declared.rows.Subnet.{Subnet}
use Rattle.vpc_model.specs.Lookup.{has_vpc}
use Rattle.reference_check.proofs.VpcIds.{vpc_described}
use Rattle.reference_check.proofs.network.Network.vpc_of_interface.Goals as goal

pub vpc_named-requires : goal.vpc_named-requires
vpc_named-requires c =
    subst (λ (s : Subnet). has_vpc c.args.self.now s.vpc ≡ true) (sym c.subnet_of_interface-subnet.ensures)
    (vpc_described c.args.self.now c.args.interface.now c.description.ensures.accepted c.requires)
