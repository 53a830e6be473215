use Rattle.std.proofs.Common.{◌≡◌, drop}
use Rattle.vpc_model.specs.Nat.{translation_of}
use Rattle.nat_gateway.proofs.entry.after_of.Given as goal

abbrev pub invariant-loop-t : goal.invariant-loop-t
invariant-loop-t l = translation_of (drop l.t-index l.entries) l.nat l.h ≡ translation_of l.entries l.nat l.h
