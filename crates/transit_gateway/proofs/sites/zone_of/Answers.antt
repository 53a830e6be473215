use Rattle.std.proofs.Common.{ap, arith}
use Rattle.std.specs.Prelude.{is_some}
use Rattle.vpc_laws.proofs.Lengths.{accepted_has_short_lists}
use Rattle.vpc_laws.specs.Types.{Subnet}
use Rattle.transit_gateway.proofs.KeyLemmas.{name-numbered, number-short}
use Rattle.transit_gateway.proofs.sites.zone_of.Goals as goal

pub number-requires : goal.number-requires
number-requires c = ap is_some (name-numbered (λ (s : Subnet). s.zone) c.args.n.now.subnets c.args.subnet.now c.args.zones.now c.requires.zones c.requires.listed)

pub overflow_cast-result : goal.overflow_cast-result
overflow_cast-result c =
    let short =
    number-short (λ (s : Subnet). s.zone) c.args.n.now.subnets c.args.zones.now c.args.subnet.now.zone c.number.result c.requires.zones
    (accepted_has_short_lists c.args.n.now c.description.ensures.accepted).subnets c.number.ensures in
    omega (arith, short)
