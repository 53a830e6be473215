use Rattle.std.proofs.Common.{◌∷◌, ◌++◌, ◌∙◌, [], ap}
use Rattle.vpc_base.proofs.Steps.{All-one_more, pushed-map}
use Rattle.prefix_text.specs.Block.{IsBlock}
use Rattle.route_tables.specs.Rows.{row_of}
use Rattle.route_tables.proofs.counted.add_all.Goals as goal

pub loop-block-preserved : goal.loop-block-preserved
loop-block-preserved c =
    let blocks = c.args.blocks.now in
    let i = c.loop-block.block-index in (
      pushed-map (row_of c.args.kind c.args.number) c.args.rows.now.items blocks i c.block-item.result c.loop-block.rows.items c.push.new.self.items c.loop-block-test.true c.block-item.is c.loop-block.invariant.0 (c.in_ok-push.ensures.items ∙ ap (λ r. c.loop-block.rows.items ++ r ∷ []) c.row_of.ensures.row),
      All-one_more IsBlock blocks i c.block-item.result c.loop-block-test.true c.block-item.is c.loop-block.invariant.1 c.row_of.ensures.block,
    )
