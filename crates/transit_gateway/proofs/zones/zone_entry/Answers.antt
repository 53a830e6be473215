use Rattle.std.proofs.Common.{◌≡◌, ◌∙◌, ap, subst, sym, true}
use Rattle.vpc_laws.proofs.Numbering.{ids_are_found}
use Rattle.vpc_model.specs.Lookup.{subnet_at}
use Rattle.vpc_model.specs.Sound.{is_subnet}
use Rattle.vpc_model.specs.declared.numbers.SubnetNo.{SubnetNo}
use Rattle.transit_gateway.proofs.ByNumber.{entry-is, row-listed}
use Rattle.transit_gateway.proofs.zones.zone_entry.Goals as goal

pub subnet_at-subnet-requires : goal.subnet_at-subnet-requires
subnet_at-subnet-requires c =
    subst (λ (s : SubnetNo). is_subnet c.args.n.now s ≡ true) (sym c.subnet_named-s.ensures)
    ((ids_are_found c.args.n.now).subnet c.args.id.now c.requires.described).0

pub zone_of-zone-requires-clause-listed : goal.zone_of-zone-requires-clause-listed
zone_of-zone-requires-clause-listed c =
    row-listed c.args.n.now c.args.id.now c.subnet_at-subnet.result.now c.requires.described
    (c.subnet_at-subnet.ensures ∙ ap (subnet_at c.args.n.now) c.subnet_named-s.ensures)

pub returns : goal.returns
returns c =
    entry-is c.args.n.now c.args.number c.args.id.now c.subnet_named-s.result c.subnet_at-subnet.result.now c.zone_of-zone.result c.key_of.result c.subnet_named-s.ensures
    (c.subnet_at-subnet.ensures ∙ ap (subnet_at c.args.n.now) c.subnet_named-s.ensures) c.zone_of-zone.ensures c.key_of.ensures
