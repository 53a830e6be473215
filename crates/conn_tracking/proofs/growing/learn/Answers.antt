use Rattle.conn_tracking.proofs.Lookups.{learn_one}
use Rattle.conn_tracking.proofs.growing.learn.Goals as goal

pub loop-count-preserved : goal.loop-count-preserved
loop-count-preserved c = learn_one _ _ _ _ _ c.loop-count.invariant c.loop-count-test.true c.index-list-count.is c.in_ok-insert.ensures.updates.0
