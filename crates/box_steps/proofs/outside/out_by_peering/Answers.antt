use Rattle.std.proofs.Common.{◌≡◌, ◌∙◌, ap, subst, sym, true}
use Rattle.vpc_laws.specs.Types.{Description}
use Rattle.vpc_model.specs.Far.{peering_to, vpc_beside}
use Rattle.vpc_model.specs.Sound.{is_vpc}
use Rattle.box_steps.proofs.OutsideAnswers.{answers_out_over}
use Rattle.box_steps.proofs.outside.out_by_peering.Goals as goal

pub returns : goal.returns
returns c =
    let d = c.args.f.now in
    let far = c.args.far.now in
    answers_out_over d c.args.k far c.peering_to-x.result c.in-Some.v c.args.i.now c.within.result c.is_inside_on-source.result c.is_beyond_on-destination.result c.over_peering.result
    c.requires.valid.part c.within.ensures.image c.requires.row (c.peering_to-x.ensures ∙ ap (λ (n : Description). peering_to n far) c.network-n.ensures)
    (sym c.in-Some.is ∙ c.vpc_beside.ensures.number ∙ ap (λ (n : Description). vpc_beside n far) c.network-n.ensures) c.over_peering.ensures
    (c.is_inside_on-source.ensures d c.edges.ensures (subst (λ (n : Description). is_vpc n c.in-Some.v ≡ true) c.network-n.ensures c.in-Some.ensures.within)) (c.is_beyond_on-destination.ensures d c.edges-2.ensures c.requires.far)
