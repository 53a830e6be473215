use Rattle.std.proofs.Common.{List, false, take, ℕ}
use Rattle.conn_tracking.specs.OnImages.{AreAnswerAndOpens, TellsTracked}
use Rattle.conn_tracking.proofs.on_images.tracked_on.Given as goal

abbrev pub invariant-loop-e : goal.invariant-loop-e
invariant-loop-e l = (addresses : List ℕ) → AreAnswerAndOpens addresses l.i l.entries
    → TellsTracked addresses (take l.e-index l.entries) l.eni l.fn.dir l.i (record { body = l.body; told = false })
