use Rattle.std.proofs.Common.{◌≡◌, ◌∙◌, ap, subst, sym}
use Rattle.fabric.proofs.RowFacts.{table-lies}
use Rattle.fabric.proofs.Routing.{chosen_route-lies}
use Rattle.packet_emulator.specs.Comes.{comes}
use Rattle.vpc_laws.specs.Types.{Description, TableNo}
use Rattle.vpc_model.specs.Lookup.{table_at, table_of}
use Rattle.vpc_model.specs.Routes.{chosen_route}
use Rattle.vpc_model.specs.Step.Router as model
use Rattle.vpc_model.specs.Step.Words.{stop}
use Rattle.vpc_model.specs.declared.stops.Stop.TheVariants as stops
use Rattle.packet_emulator.proofs.router.router.Goals as goal

pub route_of-requires : goal.route_of-requires
route_of-requires c = table-lies c.args.f.now c.network-n.result.now c.args.s c.table_of-t.result c.network-n.ensures c.description.ensures.accepted c.requires c.table_of-t.ensures

pub by_route-requires-clause-route : goal.by_route-requires-clause-route
by_route-requires-clause-route c =
    chosen_route-lies c.args.f.now c.table_of-t.result c.in-Some.k c.args.h.now.dst
    (table-lies c.args.f.now c.network-n.result.now c.args.s c.table_of-t.result c.network-n.ensures c.description.ensures.accepted c.requires c.table_of-t.ensures)
    (sym c.in-Some.is ∙ c.route_of.ensures)

pub returns-in-Some : goal.returns-in-Some
returns-in-Some c =
    subst (λ (t : TableNo). comes c.by_route.result ≡ (let table = table_at c.args.f.now t in model.by_route c.args.f.now c.args.s c.args.h.now t (chosen_route c.args.f.now table.routes c.args.h.now.dst)))
    (c.table_of-t.ensures ∙ ap (λ (n : Description). table_of n c.args.s) c.network-n.ensures)
    (c.by_route.ensures ∙ ap (model.by_route c.args.f.now c.args.s c.args.h.now c.table_of-t.result) (sym c.in-Some.is ∙ c.route_of.ensures))

pub returns-in-None : goal.returns-in-None
returns-in-None c =
    ap (λ (t : TableNo). stop (stops.NoRoute t)) (c.table_of-t.ensures ∙ ap (λ (n : Description). table_of n c.args.s) c.network-n.ensures)
    ∙ subst (λ (t : TableNo). stop (stops.NoRoute t) ≡ (let table = table_at c.args.f.now t in model.by_route c.args.f.now c.args.s c.args.h.now t (chosen_route c.args.f.now table.routes c.args.h.now.dst)))
    (c.table_of-t.ensures ∙ ap (λ (n : Description). table_of n c.args.s) c.network-n.ensures)
    (ap (model.by_route c.args.f.now c.args.s c.args.h.now c.table_of-t.result) (sym c.in-None.is ∙ c.route_of.ensures))
