use Rattle.std.proofs.Common.{◌≡◌, ◌∙◌, ap, refl, subst, sym}
use Rattle.box_images.proofs.Reducing.{walk_within}
use Rattle.box_images.specs.Terms.{Answers, header_at}
use Rattle.box_images.specs.declared.images.Part.{Part}
use Rattle.fabric.proofs.RowFacts.{table-lies}
use Rattle.fabric.proofs.Routing.{chosen_route-lies}
use Rattle.header_boxes.specs.Boxes.{low_of}
use Rattle.vpc_laws.specs.Types.{Description, TableNo}
use Rattle.vpc_model.specs.Terms.{by_route, chosen_route, table_at, table_of}
use Rattle.vpc_model.specs.declared.places.Came.TheVariants as from
use Rattle.vpc_model.specs.declared.places.Place.TheVariants as places
use Rattle.vpc_model.specs.declared.stops.Stop.TheVariants as stops
use Rattle.box_steps.proofs.ToldOfSome.{told_of_low}
use Rattle.box_steps.proofs.RouterAnswers.{answers_of_route, answers_without_route}
use Rattle.box_steps.proofs.router.router_on.Goals as goal
use Rattle.box_steps.specs.Terms.{AtPlace, Onward, onward_of}
use Rattle.box_steps.specs.declared.onward.Onward.TheVariants as onwards

pub within-requires-clause-within : goal.within-requires-clause-within
within-requires-clause-within c = let k = c.route_on-chosen.ensures (from.Nat (record { 0 = 0 })) in k.body.within

pub by_route_on-requires-clause-walk : goal.by_route_on-requires-clause-walk
by_route_on-requires-clause-walk c = walk_within c.args.i.now c.within.result c.requires.walk c.within.ensures.kind

pub by_route_on-requires-clause-route : goal.by_route_on-requires-clause-route
by_route_on-requires-clause-route c =
    let d = c.args.f.now in
    let s = c.args.s in
    let i = c.args.i.now in
    let x = c.route_on-chosen.result in
    let t = c.table_of-t.result in
    let is : t ≡ table_of d s = c.table_of-t.ensures ∙ ap (λ (n : Description). table_of n s) c.network-n.ensures in
    let came = from.Nat (record { 0 = 0 }) in
    let a = (header_at i (low_of x.body)).dst in
    chosen_route-lies d t c.in-Some.k a (table-lies d c.network-n.result.now s t c.network-n.ensures c.description.ensures.accepted c.requires.subnet c.table_of-t.ensures)
    (sym c.in-Some.is
    ∙ told_of_low (AtPlace d (places.Router s came)) (λ h. chosen_route d (table_at d (table_of d s)).routes (header_at i h).dst) i.part x (c.route_on-chosen.ensures came)
    ∙ ap (λ (u : TableNo). chosen_route d (table_at d u).routes a) (sym is))

pub returns-in-Some : goal.returns-in-Some
returns-in-Some c = λ came.
    let d = c.args.f.now in
    let s = c.args.s in
    let i = c.args.i.now in
    let p = places.Router s came in
    let x = c.route_on-chosen.result in
    let t = c.table_of-t.result in
    let is : t ≡ table_of d s = c.table_of-t.ensures ∙ ap (λ (n : Description). table_of n s) c.network-n.ensures in
    let chosen = subst (λ (u : TableNo). Answers (AtPlace d p) (λ h. chosen_route d (table_at d u).routes (header_at i h).dst) i.part x) (sym is) (c.route_on-chosen.ensures came) in
    subst (λ (u : TableNo). Answers (AtPlace d p) (λ h. let k = header_at i h in onward_of (by_route d s k u (chosen_route d (table_at d u).routes k.dst))) i.part c.by_route_on.result) is
    (answers_of_route d p t (λ h o. by_route d s h t o) c.in-Some.k i c.within.result x c.by_route_on.result c.requires.valid.part c.in-Some.is c.within.ensures.image chosen c.by_route_on.ensures)

pub returns-in-None : goal.returns-in-None
returns-in-None c = λ came.
    let d = c.args.f.now in
    let s = c.args.s in
    let i = c.args.i.now in
    let p = places.Router s came in
    let x = c.route_on-chosen.result in
    let t = c.table_of-t.result in
    let is : t ≡ table_of d s = c.table_of-t.ensures ∙ ap (λ (n : Description). table_of n s) c.network-n.ensures in
    let chosen = subst (λ (u : TableNo). Answers (AtPlace d p) (λ h. chosen_route d (table_at d u).routes (header_at i h).dst) i.part x) (sym is) (c.route_on-chosen.ensures came) in
    let y : Part Onward = record { body = x.body; told = onwards.Stop (stops.NoRoute t) } in
    subst (λ (u : TableNo). Answers (AtPlace d p) (λ h. let k = header_at i h in onward_of (by_route d s k u (chosen_route d (table_at d u).routes k.dst))) i.part y) is
    (answers_without_route d p t (λ h o. by_route d s h t o) i x c.in-None.is (λ h. refl) chosen)
