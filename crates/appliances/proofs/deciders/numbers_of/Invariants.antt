use Rattle.std.proofs.Common.{◌≡◌, ◌++◌, drop}
use Rattle.appliances.proofs.Numbers.{numbered}
use Rattle.appliances.proofs.deciders.numbers_of.Given as goal

abbrev pub invariant-loop-number : goal.invariant-loop-number
invariant-loop-number l = l.entries.items ++ numbered l.number (drop l.number l.rows) ≡ numbered 0 l.rows
