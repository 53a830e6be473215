use Rattle.block_pieces.proofs.Borders.{blocks-all, blocks-step, borders-step}
use Rattle.block_pieces.proofs.pieces.all_borders.Goals as goal

pub loop-row-preserved : goal.loop-row-preserved
loop-row-preserved c =
    let rows = c.args.rows.now in
    let i = c.loop-row.row-index in
    let row = c.row-item.result in (
      borders-step rows i row c.loop-row.borders.items c.add_borders.new.borders.items c.loop-row-test.true c.row-item.is c.loop-row.invariant.0 c.in_ok-add_borders.ensures.added,
      blocks-step rows i row c.loop-row-test.true c.row-item.is c.loop-row.invariant.1 c.in_ok-add_borders.ensures.block,
    )

pub returns-clause-blocks : goal.returns-clause-blocks
returns-clause-blocks c = blocks-all c.args.rows.now c.loop-row.row-index c.loop-row-test.false c.loop-row.invariant.1
