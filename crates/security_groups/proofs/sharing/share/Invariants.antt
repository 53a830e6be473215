use Rattle.std.proofs.Common.{◌-◌}
use Rattle.security_groups.proofs.CommonKeys.{NoneBelow}
use Rattle.security_groups.proofs.sharing.share.Given as goal

abbrev pub invariant-loop-one : goal.invariant-loop-one
invariant-loop-one l = NoneBelow l.keys l.x l.others l.y l.low

abbrev pub decreases-loop-one : goal.decreases-loop-one
decreases-loop-one l = 4294967296 - l.low
