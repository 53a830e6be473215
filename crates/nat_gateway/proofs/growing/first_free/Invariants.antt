use Rattle.std.proofs.Common.{◌≡◌, ◌≤◌, ◌-◌}
use Rattle.vpc_model.specs.Nat.{first_free}
use Rattle.nat_gateway.specs.Tables.{SameUsed, is_taken_beside}
use Rattle.nat_gateway.proofs.growing.first_free.Given as goal

abbrev pub invariant-loop-port : goal.invariant-loop-port
invariant-loop-port l = record {
  from : l.port ≤ l.end;
  same : SameUsed l.ports l.fn.ports;
  rest : first_free (is_taken_beside l.fn.ports l.later l.nat l.h) (l.end - l.port) l.port ≡ first_free (is_taken_beside l.fn.ports l.later l.nat l.h) (l.end - l.from) l.from;
}

abbrev pub decreases-loop-port : goal.decreases-loop-port
decreases-loop-port l = l.end - l.port
