use Rattle.std.proofs.Common.{◌∙◌, ap, bytes_eq, position}
use Rattle.vpc_laws.specs.Types.{Description, Subnet}
use Rattle.transit_gateway.proofs.InZones.{has_zones_of}
use Rattle.transit_gateway.proofs.zones.Zones.of.Goals as goal

pub sites_of-requires : goal.sites_of-requires
sites_of-requires c = λ zone.
    c.in_ok-zones.ensures zone
    ∙ ap (position (λ (s : Subnet). bytes_eq s.zone zone)) (c.as_slice.ensures ∙ ap (λ (d : Description). d.subnets) c.description-d.ensures.value)

pub subnet_table-requires : goal.subnet_table-requires
subnet_table-requires c = λ zone.
    c.in_ok-zones.ensures zone
    ∙ ap (position (λ (s : Subnet). bytes_eq s.zone zone)) (c.as_slice.ensures ∙ ap (λ (d : Description). d.subnets) c.description-d.ensures.value)

pub returns : goal.returns
returns c =
    has_zones_of c.args.n.now c.in_ok-sites.sites.items c.in_ok-subnets.subnets c.in_ok-firsts.firsts.items c.description-d.ensures.accepted c.in_ok-sites.ensures c.in_ok-subnets.ensures c.in_ok-firsts.ensures
