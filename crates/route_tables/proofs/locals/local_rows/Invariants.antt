use Rattle.route_tables.specs.Rows.{local_rows_of}
use Rattle.route_tables.proofs.Giving.{HasGiven}
use Rattle.route_tables.proofs.locals.local_rows.Given as goal

abbrev pub invariant-loop-route : goal.invariant-loop-route
invariant-loop-route l = HasGiven (λ _ r. local_rows_of l.n r) l.routes l.route-index l.rows.items l.seen
