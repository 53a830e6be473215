use Rattle.std.proofs.Common.{◌≡◌, drop}
use Rattle.std.specs.List.{flat_map}
use Rattle.reference_check.proofs.references.check_all.Given as goal

abbrev pub invariant-loop-row : goal.invariant-loop-row
invariant-loop-row g l = flat_map (g.R.Refers.missing_of l.rows) (drop l.row-index l.list) ≡ flat_map (g.R.Refers.missing_of l.rows) l.list
