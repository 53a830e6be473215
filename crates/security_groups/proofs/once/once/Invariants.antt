use Rattle.std.proofs.Common.{◌≡◌, drop}
use Rattle.security_groups.specs.Once.{once, once_after}
use Rattle.security_groups.proofs.once.once.Given as goal

abbrev pub invariant-loop-number : goal.invariant-loop-number
invariant-loop-number l = (l.seen ≡ l.kept.items) × (once_after l.kept.items (drop l.number-index l.numbers) ≡ once l.numbers)
