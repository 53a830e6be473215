use Rattle.std.proofs.Common.{◌≡◌, ◌++◌, filter, map, take}
use Rattle.vpc_model.specs.declared.places.End.TheVariants as ends
use Rattle.end_reach.specs.Asked.{is_start}
use Rattle.end_reach.proofs.starts.add_hosts.Given as goal

abbrev pub invariant-loop-host : goal.invariant-loop-host
invariant-loop-host l = l.starts.items ≡ l.initial.starts.items ++ map ends.Interface (filter (is_start l.n l.src l.goal) (take l.host-index l.hosts))
