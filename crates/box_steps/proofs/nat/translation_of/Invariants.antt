use Rattle.std.proofs.Common.{◌≡◌, ◌==◌, drop, find}
use Rattle.box_steps.proofs.nat.translation_of.Given as goal

abbrev pub invariant-loop-t : goal.invariant-loop-t
invariant-loop-t l = find (λ t. t.nat.0 == l.n.0) (drop l.t-index l.nats) ≡ find (λ t. t.nat.0 == l.n.0) l.nats
