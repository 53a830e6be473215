use Rattle.std.proofs.Common.{◌-◌}
use Rattle.std.specs.List.{range_with_len}
use Rattle.made_reach.specs.Made.{Adds, ArePairs}
use Rattle.made_reach.proofs.makes.put_hosts.Given as goal

abbrev pub invariant-loop-k : goal.invariant-loop-k
invariant-loop-k g l = Adds (ArePairs l.f (range_with_len 2 (l.k - 2))) l.initial.out.items l.out.items
