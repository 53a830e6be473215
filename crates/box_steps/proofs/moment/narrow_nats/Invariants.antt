use Rattle.std.proofs.Common.{◌≡◌, ◌++◌, drop, map, take}
use Rattle.box_steps.proofs.moment.narrow_nats.Given as goal
use Rattle.box_steps.specs.Moments.{nat_over}

abbrev pub invariant-loop-t : goal.invariant-loop-t
invariant-loop-t l = l.nats ≡ map (nat_over l.body) (take l.t-index l.initial.nats) ++ drop l.t-index l.initial.nats
