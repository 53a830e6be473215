use Rattle.std.proofs.Common.{◌≡◌, ◌++◌, take}
use Rattle.copied_rows.proofs.lists.add_copies.Given as goal

abbrev pub invariant-loop-row : goal.invariant-loop-row
invariant-loop-row g l = l.into.items ≡ l.initial.into.items ++ take l.row-index l.rows
