use Rattle.std.proofs.Common.{◌∷◌, ◌++◌, ◌∙◌, [], ap, not}
use Rattle.std.specs.List.{filter}
use Rattle.vpc_base.proofs.Steps.{All-one_more}
use Rattle.prefix_text.specs.Block.{IsBlock}
use Rattle.block_pieces.specs.declared.rows.BlockRow.{BlockRow}
use Rattle.route_tables.specs.Rows.{is_covered, row_of}
use Rattle.route_tables.proofs.Steps.{pushed-filter}
use Rattle.route_tables.proofs.counted.add_all_uncovered.Goals as goal

pub loop-block-preserved : goal.loop-block-preserved
loop-block-preserved g c =
    let blocks = c.args.blocks.now in
    let i = c.loop-block.block-index in
    let free = λ (r : BlockRow). not (is_covered c.args.locals.now r.block) in (
      pushed-filter free (row_of 2 c.args.number) c.args.rows.now.items blocks i c.block-item.result c.loop-block.rows.items c.add_uncovered.new.rows.items c.loop-block-test.true c.block-item.is c.loop-block.invariant.0 (c.in_ok-add_uncovered.ensures ∙ ap (λ r. c.loop-block.rows.items ++ filter free (r ∷ [])) c.row_of.ensures.row),
      All-one_more IsBlock blocks i c.block-item.result c.loop-block-test.true c.block-item.is c.loop-block.invariant.1 c.row_of.ensures.block,
    )
