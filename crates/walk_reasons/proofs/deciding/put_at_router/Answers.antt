use Rattle.std.proofs.Common.{◌++◌, ◌∙◌, List, None, Some, ap, sym, ℕ}
use Rattle.fabric.proofs.RowFacts.{table-lies}
use Rattle.fabric.proofs.Routing.{chosen_route-lies}
use Rattle.walk_reasons.proofs.ToldPlaces.{router-lines}
use Rattle.walk_reasons.proofs.Texts.{put_as, put_none}
use Rattle.walk_reasons.proofs.deciding.put_at_router.Goals as goal

pub route_of-requires : goal.route_of-requires
route_of-requires c = table-lies c.args.f.now c.network-n.result.now c.args.s c.table_of-t.result c.network-n.ensures c.description.ensures.accepted c.requires c.table_of-t.ensures

pub put_by_route-requires-clause-route : goal.put_by_route-requires-clause-route
put_by_route-requires-clause-route c =
    chosen_route-lies c.args.f.now c.table_of-t.result c.in-Some.k c.args.h.now.dst
    (table-lies c.args.f.now c.network-n.result.now c.args.s c.table_of-t.result c.network-n.ensures c.description.ensures.accepted c.requires c.table_of-t.ensures)
    (sym c.in-Some.is ∙ c.route_of.ensures)

pub returns-in-Some : goal.returns-in-Some
returns-in-Some c =
    put_as c.put_by_route.result c.args.out.now.items _ _ c.put_by_route.new.out.items
    (router-lines c.args.f.now c.network-n.result.now c.args.s c.args.h.now c.table_of-t.result (Some c.in-Some.k) c.network-n.ensures c.table_of-t.ensures (sym c.in-Some.is ∙ c.route_of.ensures))
    c.put_by_route.ensures

pub returns-in-None : goal.returns-in-None
returns-in-None c =
    put_none c.args.out.now.items
    ∙ ap (λ (t : List ℕ). c.args.out.now.items ++ t)
    (router-lines c.args.f.now c.network-n.result.now c.args.s c.args.h.now c.table_of-t.result None c.network-n.ensures c.table_of-t.ensures (sym c.in-None.is ∙ c.route_of.ensures))
