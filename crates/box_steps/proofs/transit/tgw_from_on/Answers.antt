use Rattle.std.proofs.Common.{◌≡◌, ◌∙◌, None, Option, Some, ap, sym, ℕ}
use Rattle.box_images.specs.Images.{header_at}
use Rattle.transit_gateway.specs.Index.{routes_of}
use Rattle.vpc_laws.specs.Types.{TgwTableNo}
use Rattle.vpc_model.specs.Far.{table_of_attachment_id}
use Rattle.vpc_model.specs.Lookup.{far_at}
use Rattle.vpc_model.specs.Step.Far.{in_by_attachment}
use Rattle.vpc_model.specs.Step.Transit.{by_tgw_route}
use Rattle.vpc_model.specs.Transit.{chosen_tgw_route}
use Rattle.vpc_model.specs.declared.places.Place.TheVariants as places
use Rattle.box_steps.proofs.ToldOfSome.{chosen_within}
use Rattle.box_steps.proofs.Telling.{answers_told}
use Rattle.box_steps.proofs.transit.tgw_from_on.Goals as goal
use Rattle.box_steps.specs.Cuts.{AtPlace}
use Rattle.box_steps.specs.Onward.{onward_of}

pub tgw_route_from-chosen-requires-clause-own : goal.tgw_route_from-chosen-requires-clause-own
tgw_route_from-chosen-requires-clause-own c = sym c.table_behind.ensures.number ∙ c.in-Some.is

pub by_choice-requires-clause-route : goal.by_choice-requires-clause-route
by_choice-requires-clause-route c =
    chosen_within (AtPlace c.args.f.now (places.FarIn c.args.k)) (routes_of c.args.f.now c.in-Some.t) c.args.i.now c.tgw_route_from-chosen.result c.tgw_route_from-chosen.ensures

pub returns : goal.returns
returns c =
    let d = c.args.f.now in
    let k = c.args.k in
    let i = c.args.i.now in
    let t = c.in-Some.t in
    let own : table_of_attachment_id d (far_at d k).id ≡ Some t = sym c.table_behind.ensures.number ∙ c.in-Some.is in
    answers_told (AtPlace d (places.FarIn k)) (λ h. chosen_tgw_route (routes_of d t) (header_at i h).dst)
    (λ h. onward_of (in_by_attachment d k (header_at i h) (table_of_attachment_id d (far_at d k).id))) i.part c.tgw_route_from-chosen.result c.by_choice.result
    (λ h e. ap (λ (o : Option TgwTableNo). onward_of (in_by_attachment d k (header_at i h) o)) own
    ∙ ap (λ (o : Option ℕ). onward_of (by_tgw_route d None (header_at i h) t o)) e
    ∙ c.by_choice.ensures (header_at i h))
    c.tgw_route_from-chosen.ensures
