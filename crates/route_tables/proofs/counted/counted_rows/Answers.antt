use Rattle.std.specs.List.{All}
use Rattle.vpc_base.proofs.Steps.{All-one_more, All-whole}
use Rattle.prefix_text.specs.Block.{IsBlock}
use Rattle.vpc_laws.specs.Types.{Route}
use Rattle.vpc_model.specs.Cuts.{blocks_of_reach}
use Rattle.route_tables.specs.Rows.{counted_rows_of}
use Rattle.route_tables.proofs.Giving.{given-all, given-new, given-repeat, repeat-blocks}
use Rattle.route_tables.proofs.counted.counted_rows.Goals as goal

pub loop-number-preserved : goal.loop-number-preserved
loop-number-preserved g c =
    let d = c.args.n.now in
    let routes = c.args.routes.now in
    let i = c.loop-number.number in
    let r = c.index-routes-number.result in (
      given-new (counted_rows_of d c.args.locals.now) routes i r c.loop-number.rows.items c.add_route.new.rows.items c.loop-number.seen c.is_new.new.self c.in_ok-is_new.field-0 c.loop-number-test.true c.index-routes-number.is c.loop-number.invariant.0 c.if-not-branch.false c.in_ok-is_new.ensures.fresh c.in_ok-is_new.ensures.added c.in_ok-add_route.ensures.rows,
      All-one_more (λ (r : Route). All IsBlock (blocks_of_reach d r.reach)) routes i r c.loop-number-test.true c.index-routes-number.is c.loop-number.invariant.1 c.in_ok-add_route.ensures.blocks,
    )

pub loop-number-preserved-then-not-branch : goal.loop-number-preserved-then-not-branch
loop-number-preserved-then-not-branch g c =
    let d = c.args.n.now in
    let routes = c.args.routes.now in
    let i = c.loop-number.number in
    let r = c.index-routes-number.result in (
      given-repeat (counted_rows_of d c.args.locals.now) routes i r c.loop-number.rows.items c.loop-number.seen c.is_new.new.self c.in_ok-is_new.field-0 c.loop-number-test.true c.index-routes-number.is c.loop-number.invariant.0 c.if-not-branch.true c.in_ok-is_new.ensures.fresh c.in_ok-is_new.ensures.added,
      All-one_more (λ (r : Route). All IsBlock (blocks_of_reach d r.reach)) routes i r c.loop-number-test.true c.index-routes-number.is c.loop-number.invariant.1 (repeat-blocks d (counted_rows_of d c.args.locals.now) routes i r c.loop-number.rows.items c.loop-number.seen c.in_ok-is_new.field-0 c.loop-number.invariant.0 c.loop-number.invariant.1 c.if-not-branch.true c.in_ok-is_new.ensures.fresh),
    )

pub returns-clause-rows : goal.returns-clause-rows
returns-clause-rows g c = given-all (counted_rows_of c.args.n.now c.args.locals.now) c.args.routes.now c.loop-number.number c.loop-number.rows.items c.loop-number.seen c.loop-number-test.false c.loop-number.invariant.0

pub returns-clause-blocks : goal.returns-clause-blocks
returns-clause-blocks g c = All-whole (λ (r : Route). All IsBlock (blocks_of_reach c.args.n.now r.reach)) c.args.routes.now c.loop-number.number c.loop-number-test.false c.loop-number.invariant.1
