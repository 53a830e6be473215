use Rattle.route_tables.specs.Rows.{local_rows_of}
use Rattle.route_tables.proofs.Giving.{given-new, given-repeat}
use Rattle.route_tables.proofs.locals.local_rows.Goals as goal

pub loop-route-preserved : goal.loop-route-preserved
loop-route-preserved c =
    given-new (λ _ r. local_rows_of c.args.n.now r) c.args.routes.now c.loop-route.route-index c.route-item.result c.loop-route.rows.items c.add_local.new.rows.items c.loop-route.seen c.is_new.new.self c.in_ok-is_new.field-0 c.loop-route-test.true c.route-item.is c.loop-route.invariant c.if-not-branch.false c.in_ok-is_new.ensures.fresh c.in_ok-is_new.ensures.added c.in_ok-add_local.ensures

pub loop-route-preserved-then-not-branch : goal.loop-route-preserved-then-not-branch
loop-route-preserved-then-not-branch c =
    given-repeat (λ _ r. local_rows_of c.args.n.now r) c.args.routes.now c.loop-route.route-index c.route-item.result c.loop-route.rows.items c.loop-route.seen c.is_new.new.self c.in_ok-is_new.field-0 c.loop-route-test.true c.route-item.is c.loop-route.invariant c.if-not-branch.true c.in_ok-is_new.ensures.fresh c.in_ok-is_new.ensures.added
