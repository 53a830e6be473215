use Rattle.std.specs.List.{All}
use Rattle.security_groups.specs.Sharing.{IsToldShare}
use Rattle.security_groups.proofs.attached.told_pairs.Given as goal

abbrev pub invariant-loop-pair : goal.invariant-loop-pair
invariant-loop-pair l = All (IsToldShare l.keys) l.told.items
