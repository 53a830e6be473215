use Rattle.std.proofs.Common.{◌≡◌, ◌∙◌, Some, ap, subst, sym}
use Rattle.box_images.proofs.Reducing.{walk_within}
use Rattle.box_images.specs.Images.{header_at}
use Rattle.fabric.proofs.RowFacts.{table-lies}
use Rattle.fabric.proofs.Routing.{chosen_route-lies}
use Rattle.header_boxes.specs.Boxes.{low_of}
use Rattle.vpc_laws.specs.Types.{Description, TableNo}
use Rattle.vpc_model.specs.Lookup.{table_at, table_of}
use Rattle.vpc_model.specs.Routes.{chosen_route}
use Rattle.vpc_model.specs.Step.Router.{by_route}
use Rattle.vpc_model.specs.declared.places.Came.TheVariants as from
use Rattle.vpc_model.specs.declared.places.Place.TheVariants as places
use Rattle.box_steps.proofs.Away.{choice_away}
use Rattle.box_steps.proofs.ToldOfSome.{told_of_low}
use Rattle.box_steps.proofs.missing.router_away_on.Goals as goal
use Rattle.box_steps.specs.Cuts.{AtPlace, Standing}
use Rattle.box_steps.specs.Missing.{HoldsOver, misses}

pub within-requires-clause-within : goal.within-requires-clause-within
within-requires-clause-within g c = let k = c.route_on-chosen.ensures (from.Nat (record { 0 = 0 })) in k.body.within

pub by_route_away-requires-clause-walk : goal.by_route_away-requires-clause-walk
by_route_away-requires-clause-walk g c = walk_within c.args.i.now c.within.result c.requires.walk c.within.ensures.kind

pub by_route_away-requires-clause-route : goal.by_route_away-requires-clause-route
by_route_away-requires-clause-route g c =
    let d = c.args.f.now in
    let s = c.args.s in
    let i = c.args.i.now in
    let x = c.route_on-chosen.result in
    let t = c.table_of-t.result in
    let is : t ≡ table_of d s = c.table_of-t.ensures ∙ ap (λ (n : Description). table_of n s) c.network-n.ensures in
    let came = from.Nat (record { 0 = 0 }) in
    let a = (header_at i (low_of x.body)).dst in
    chosen_route-lies d t c.in-Some.k a (table-lies d c.network-n.result.now s t c.network-n.ensures c.description.ensures.accepted c.requires.subnet c.table_of-t.ensures)
    (sym c.in-Some.is
    ∙ told_of_low (AtPlace d (places.Router s came)) (λ h. chosen_route d (table_at d (table_of d s)).routes (header_at i h).dst) i.part x (c.route_on-chosen.ensures came)
    ∙ ap (λ (u : TableNo). chosen_route d (table_at d u).routes a) (sym is))

pub returns-in-Some : goal.returns-in-Some
returns-in-Some g c = λ came.
    let d = c.args.f.now in
    let s = c.args.s in
    let appliances = c.args.aim.now.deciders.now.appliances in
    let own = table_of d s in
    let is : c.table_of-t.result ≡ own = c.table_of-t.ensures ∙ ap (λ (n : Description). table_of n s) c.network-n.ensures in
    choice_away d appliances c.args.aim.now.goal (places.Router s came) (λ h o. by_route d s h own o) (λ h. chosen_route d (table_at d own).routes h.dst) c.in-Some.k c.args.i.now c.within.result
    c.route_on-chosen.result c.by_route_away.result c.requires.valid.part c.in-Some.is c.within.ensures.image (c.route_on-chosen.ensures came)
    (subst (λ (u : TableNo). HoldsOver (Standing d) (λ h. misses appliances c.args.aim.now.goal (by_route d s (header_at c.within.result h) u (Some c.in-Some.k))) c.within.result.part c.by_route_away.result) is
    c.by_route_away.ensures)
