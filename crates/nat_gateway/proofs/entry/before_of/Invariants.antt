use Rattle.std.proofs.Common.{◌≡◌, drop}
use Rattle.nat_gateway.specs.Tables.{made_into}
use Rattle.nat_gateway.proofs.entry.before_of.Given as goal

abbrev pub invariant-loop-t : goal.invariant-loop-t
invariant-loop-t l = made_into (drop l.t-index l.entries) l.nat l.h ≡ made_into l.entries l.nat l.h
