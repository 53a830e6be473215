use Rattle.std.proofs.Common.{◌-◌, length}
use Rattle.conn_tracking.specs.Tracked.{AreFirst}
use Rattle.conn_tracking.proofs.growing.learn.Given as goal

abbrev pub invariant-loop-count : goal.invariant-loop-count
invariant-loop-count l = AreFirst l.known.keys l.count l.list

abbrev pub decreases-loop-count : goal.decreases-loop-count
decreases-loop-count l = length l.list - l.count
