use Rattle.std.proofs.Common.{◌∙◌, refl, sym}
use Rattle.box_images.proofs.Reducing.{walk_within}
use Rattle.box_images.specs.Terms.{header_at}
use Rattle.fabric.proofs.Routing.{chosen_route-lies}
use Rattle.header_boxes.specs.Boxes.{low_of}
use Rattle.vpc_model.specs.Terms.{chosen_route, table_at}
use Rattle.vpc_model.specs.Step.Enter.{enter_by_route}
use Rattle.vpc_model.specs.declared.places.Place.TheVariants as places
use Rattle.box_steps.proofs.ToldOfSome.{told_of_low}
use Rattle.box_steps.proofs.RouterAnswers.{answers_of_route, answers_without_route}
use Rattle.box_steps.proofs.enter.enter_by_table_on.Goals as goal
use Rattle.box_steps.specs.Terms.{AtPlace}

pub within-requires-clause-within : goal.within-requires-clause-within
within-requires-clause-within c = c.entrance_route_on-chosen.ensures.body.within

pub enter_by_route_on-requires-clause-walk : goal.enter_by_route_on-requires-clause-walk
enter_by_route_on-requires-clause-walk c = walk_within c.args.i.now c.within.result c.requires.walk c.within.ensures.kind

pub enter_by_route_on-requires-clause-route : goal.enter_by_route_on-requires-clause-route
enter_by_route_on-requires-clause-route c =
    let d = c.args.f.now in
    let i = c.args.i.now in
    let x = c.entrance_route_on-chosen.result in
    let t = c.args.t in
    chosen_route-lies d t c.in-Some.k (header_at i (low_of x.body)).dst c.requires.table
    (sym c.in-Some.is
    ∙ told_of_low (AtPlace d (places.Enter c.args.v c.args.by)) (λ h. chosen_route d (table_at d t).routes (header_at i h).dst) i.part x c.entrance_route_on-chosen.ensures)

pub returns-in-Some : goal.returns-in-Some
returns-in-Some c =
    let d = c.args.f.now in
    let t = c.args.t in
    answers_of_route d (places.Enter c.args.v c.args.by) t (λ h o. enter_by_route d c.args.v h t o) c.in-Some.k c.args.i.now c.within.result c.entrance_route_on-chosen.result c.enter_by_route_on.result
    c.requires.valid.part c.in-Some.is c.within.ensures.image c.entrance_route_on-chosen.ensures c.enter_by_route_on.ensures

pub returns-in-None : goal.returns-in-None
returns-in-None c =
    let d = c.args.f.now in
    let t = c.args.t in
    answers_without_route d (places.Enter c.args.v c.args.by) t (λ h o. enter_by_route d c.args.v h t o) c.args.i.now c.entrance_route_on-chosen.result c.in-None.is (λ h. refl) c.entrance_route_on-chosen.ensures
