use Rattle.std.proofs.Common.{◌≡◌, drop}
use Rattle.std.specs.List.{find}
use Rattle.network_acls.specs.Tried.{row_matches}
use Rattle.network_acls.proofs.index.first_verdict.Given as goal

abbrev pub invariant-loop-row : goal.invariant-loop-row
invariant-loop-row l = find (row_matches l.dir l.h) (drop l.row-index l.rows) ≡ find (row_matches l.dir l.h) l.rows
