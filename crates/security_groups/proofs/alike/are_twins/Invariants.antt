use Rattle.std.proofs.Common.{take}
use Rattle.std.specs.List.{AllZip}
use Rattle.security_groups.specs.Alike.{IsTwin}
use Rattle.security_groups.proofs.alike.are_twins.Given as goal

abbrev pub invariant-loop-k : goal.invariant-loop-k
invariant-loop-k l = AllZip (IsTwin l.twins) (take l.k l.numbers) (take l.k l.others)
