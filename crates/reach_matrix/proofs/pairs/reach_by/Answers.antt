use Rattle.std.proofs.Common.{◌∙◌, ap}
use Rattle.box_walk.specs.Asking.{Asking, asked, asked_by, homes_by}
use Rattle.vpc_laws.specs.Types.{Description}
use Rattle.vpc_model.specs.declared.places.End.TheVariants as places
use Rattle.reach_matrix.proofs.PairRanges.{pair_ranges, valid_between}
use Rattle.reach_matrix.specs.Pairs.{address_of, requests_between}
use Rattle.reach_matrix.proofs.pairs.reach_by.Goals as goal

pub open_ports-requires : goal.open_ports-requires
open_ports-requires g c = valid_between c.address_of.result c.address_of-2.result c.args.ports c.requests_between-sides.result c.requires.ports c.requests_between-sides.ensures

pub returns-clause-ranges : goal.returns-clause-ranges
returns-clause-ranges g c =
    let p = c.of.result.round.now in
    let sides = c.requests_between-sides.ensures
    ∙ (ap (λ a. requests_between a c.address_of-2.result c.args.ports) c.address_of.ensures
    ∙ ap (λ a. requests_between (address_of c.args.f.now c.args.from) a c.args.ports) c.address_of-2.ensures) in
    let turned = c.look_ahead.ensures ∙ c.turn.ensures ∙ ap (λ (d : Description). asked d (places.Interface c.args.from) (places.Interface c.args.to)) c.requires.network in
    pair_ranges c.args.f.now c.args.ports (c.args.from, c.args.to) (asked_by p.fabric.now (homes_by p.links.now p.start) p.goal) c.requests_between-sides.result c.open_ports.result
    (c.of.ensures ∙ turned) sides c.open_ports.ensures

pub returns-clause-network : goal.returns-clause-network
returns-clause-network g c = ap (λ (a : Asking). a.network) (c.look_ahead.ensures ∙ c.turn.ensures) ∙ c.requires.network
