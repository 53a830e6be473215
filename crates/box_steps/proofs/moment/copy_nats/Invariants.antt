use Rattle.std.proofs.Common.{◌≡◌, take}
use Rattle.box_steps.proofs.moment.copy_nats.Given as goal

abbrev pub invariant-loop-t : goal.invariant-loop-t
invariant-loop-t l = l.into.items ≡ take l.t-index l.nats
