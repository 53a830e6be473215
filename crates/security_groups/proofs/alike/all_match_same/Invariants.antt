use Rattle.std.proofs.Common.{take}
use Rattle.std.specs.List.{AllZip}
use Rattle.security_groups.specs.Alike.{MatchesSame}
use Rattle.security_groups.proofs.alike.all_match_same.Given as goal

abbrev pub invariant-loop-k : goal.invariant-loop-k
invariant-loop-k l = AllZip (MatchesSame l.names.one.now l.names.other.now) (take l.k l.rules) (take l.k l.others)
