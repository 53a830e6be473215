use Rattle.cut_points.proofs.Additions.{gathered_with-step, gathered_with-last}
use Rattle.cut_points.proofs.rows.add_all.Goals as goal

pub loop-row-preserved : goal.loop-row-preserved
loop-row-preserved g c = gathered_with-step g.T.Cutting.cuts c.loop-row.gathered c.add_to.new.gathered _ c.args.rows.now c.loop-row.row-index c.row-item.result c.loop-row-test.true (c.in_ok-add_to.ensures {u = tt}) c.row-item.is c.loop-row.invariant

pub returns : goal.returns
returns g c = gathered_with-last g.T.Cutting.cuts c.loop-row.gathered _ c.args.rows.now c.loop-row.row-index c.loop-row-test.false c.loop-row.invariant
