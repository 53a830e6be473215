use Rattle.std.proofs.Common.{◌≡◌, ◌∙◌, Option, Some, ap, sym, ℕ}
use Rattle.box_images.specs.Images.{header_at}
use Rattle.transit_gateway.specs.Index.{routes_of}
use Rattle.vpc_laws.specs.Types.{TgwTableNo}
use Rattle.vpc_model.specs.Step.Transit.{by_tgw_route, by_tgw_table}
use Rattle.vpc_model.specs.Transit.{chosen_tgw_route, table_of_attachment}
use Rattle.vpc_model.specs.declared.places.Place.TheVariants as places
use Rattle.box_steps.proofs.ToldOfSome.{chosen_within}
use Rattle.box_steps.proofs.Telling.{answers_told}
use Rattle.box_steps.proofs.transit.tgw_on.Goals as goal
use Rattle.box_steps.specs.Cuts.{AtPlace}
use Rattle.box_steps.specs.Onward.{onward_of}

pub by_choice-requires-clause-route : goal.by_choice-requires-clause-route
by_choice-requires-clause-route c =
    chosen_within (AtPlace c.args.f.now (places.Tgw c.args.a c.args.entered)) (routes_of c.args.f.now c.in-Some.t) c.args.i.now c.tgw_route_on-chosen.result
    (c.tgw_route_on-chosen.ensures c.args.entered)

pub returns : goal.returns
returns c =
    let d = c.args.f.now in
    let a = c.args.a in
    let entered = c.args.entered in
    let i = c.args.i.now in
    let t = c.in-Some.t in
    let own : table_of_attachment d a ≡ Some t = sym (c.table_of.ensures d c.transit.ensures) ∙ c.in-Some.is in
    answers_told (AtPlace d (places.Tgw a entered)) (λ h. chosen_tgw_route (routes_of d t) (header_at i h).dst)
    (λ h. onward_of (by_tgw_table d a entered (header_at i h) (table_of_attachment d a))) i.part c.tgw_route_on-chosen.result c.by_choice.result
    (λ h e. ap (λ (o : Option TgwTableNo). onward_of (by_tgw_table d a entered (header_at i h) o)) own
    ∙ ap (λ (o : Option ℕ). onward_of (by_tgw_route d (Some entered) (header_at i h) t o)) e
    ∙ c.by_choice.ensures (header_at i h))
    (c.tgw_route_on-chosen.ensures entered)
