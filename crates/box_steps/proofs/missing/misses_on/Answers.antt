use Rattle.std.proofs.Common.{refl}
use Rattle.box_images.specs.Images.{header_at}
use Rattle.vpc_base.specs.declared.headers.Label.TheVariants as labels
use Rattle.vpc_model.specs.Appliances.{appliances_of}
use Rattle.vpc_model.specs.Firewalls.{entrance_table}
use Rattle.vpc_model.specs.Lookup.{table_at, table_of}
use Rattle.vpc_model.specs.Routes.{chosen_route}
use Rattle.vpc_model.specs.Step.Enter.{enter_by_table}
use Rattle.vpc_model.specs.Step.Router.{by_route}
use Rattle.vpc_model.specs.declared.places.Place.TheVariants as places
use Rattle.box_steps.proofs.Away.{misses_by, standing_over}
use Rattle.box_steps.proofs.PlainSteps.{walk_of_moment}
use Rattle.box_steps.proofs.missing.misses_on.Goals as goal
use Rattle.box_steps.specs.Missing.{misses}

pub router_away_on-requires-clause-walk : goal.router_away_on-requires-clause-walk
router_away_on-requires-clause-walk g c = walk_of_moment c.args.f.now labels.Opening c.args.m.now c.requires.moment

pub entrance_away_on-requires-clause-walk : goal.entrance_away_on-requires-clause-walk
entrance_away_on-requires-clause-walk g c = walk_of_moment c.args.f.now labels.Opening c.args.m.now c.requires.moment

pub returns-in-Router : goal.returns-in-Router
returns-in-Router g c =
    let d = c.args.f.now in
    let s = c.in-Router.s in
    let t = table_of d s in
    misses_by d c.args.deciders.now.appliances (appliances_of d) c.args.goal (places.Router s c.in-Router.field-1) (λ h. by_route d s h t (chosen_route d (table_at d t).routes h.dst)) c.args.m.now
    c.router_away_on.result c.requires.appliances c.in-Router.is (λ k. refl) (c.router_away_on.ensures c.in-Router.field-1)

pub returns-in-Enter : goal.returns-in-Enter
returns-in-Enter g c =
    let d = c.args.f.now in
    let v = c.in-Enter.v in
    let m = c.args.m.now in
    let few = c.args.deciders.now.appliances in
    let by = c.in-Enter.by in
    misses_by d few (appliances_of d) c.args.goal (places.Enter v by) (λ h. enter_by_table d v h (entrance_table d v by)) m c.entrance_away_on.result c.requires.appliances c.in-Enter.is (λ k. refl)
    (standing_over d (places.Enter v by) (λ h. misses few c.args.goal (enter_by_table d v (header_at m.header h) (entrance_table d v by))) m.header.part c.entrance_away_on.result c.entrance_away_on.ensures)
