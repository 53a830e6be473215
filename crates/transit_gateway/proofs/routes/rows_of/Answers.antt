use Rattle.std.proofs.Common.{◌++◌, ◌∷◌, ◌∙◌, [], ap}
use Rattle.vpc_base.proofs.Steps.{All-one_more, All-whole}
use Rattle.prefix_text.specs.Block.{IsBlock}
use Rattle.vpc_laws.specs.Types.{TgwRoute}
use Rattle.transit_gateway.specs.Rows.{rows_of}
use Rattle.transit_gateway.proofs.Steps.{rows_of-end, rows_of-step}
use Rattle.transit_gateway.proofs.routes.rows_of.Goals as goal

pub loop-number-preserved : goal.loop-number-preserved
loop-number-preserved c =
    let routes = c.args.routes.now in
    let i = c.loop-number.number in
    let r = c.index-routes-number.result in (
      rows_of-step routes i r c.loop-number.rows.items c.push.new.self.items (rows_of 0 routes) c.loop-number-test.true c.index-routes-number.is c.loop-number.invariant.0 (c.in_ok-push.ensures.items ∙ ap (λ x. c.loop-number.rows.items ++ x ∷ []) c.row_of.ensures.row),
      All-one_more (λ (r : TgwRoute). IsBlock r.block) routes i r c.loop-number-test.true c.index-routes-number.is c.loop-number.invariant.1 c.row_of.ensures.block,
    )

pub returns-clause-rows : goal.returns-clause-rows
returns-clause-rows c = rows_of-end c.args.routes.now c.loop-number.number c.loop-number.rows.items (rows_of 0 c.args.routes.now) c.loop-number-test.false c.loop-number.invariant.0

pub returns-clause-blocks : goal.returns-clause-blocks
returns-clause-blocks c = All-whole (λ (r : TgwRoute). IsBlock r.block) c.args.routes.now c.loop-number.number c.loop-number-test.false c.loop-number.invariant.1
