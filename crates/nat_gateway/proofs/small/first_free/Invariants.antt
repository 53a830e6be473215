use Rattle.std.proofs.Common.{◌≡◌, ◌-◌}
use Rattle.vpc_model.specs.Nat.{first_free, is_taken}
use Rattle.nat_gateway.proofs.small.first_free.Given as goal

abbrev pub invariant-loop-port : goal.invariant-loop-port
invariant-loop-port l = first_free (is_taken l.entries l.nat l.h) (l.end - l.port) l.port ≡ first_free (is_taken l.entries l.nat l.h) (l.end - l.from) l.from
