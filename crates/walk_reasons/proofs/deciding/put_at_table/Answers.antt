use Rattle.std.proofs.Common.{◌++◌, ◌∙◌, List, None, Some, ap, sym, ℕ}
use Rattle.fabric.proofs.Routing.{chosen_route-lies}
use Rattle.walk_reasons.proofs.ToldPlaces.{table-lines}
use Rattle.walk_reasons.proofs.Texts.{put_as, put_none}
use Rattle.walk_reasons.proofs.deciding.put_at_table.Goals as goal

pub put_by_entrance-requires-clause-route : goal.put_by_entrance-requires-clause-route
put_by_entrance-requires-clause-route c = chosen_route-lies c.args.f.now c.args.t c.in-Some.k c.args.h.now.dst c.requires.table (sym c.in-Some.is ∙ c.route_of.ensures)

pub returns-in-Some : goal.returns-in-Some
returns-in-Some c =
    put_as c.put_by_entrance.result c.args.out.now.items _ _ c.put_by_entrance.new.out.items
    (table-lines c.args.f.now c.args.v c.args.h.now c.args.t (Some c.in-Some.k) (sym c.in-Some.is ∙ c.route_of.ensures)) c.put_by_entrance.ensures

pub returns-in-None : goal.returns-in-None
returns-in-None c =
    put_none c.args.out.now.items
    ∙ ap (λ (t : List ℕ). c.args.out.now.items ++ t) (table-lines c.args.f.now c.args.v c.args.h.now c.args.t None (sym c.in-None.is ∙ c.route_of.ensures))
