use Rattle.std.proofs.Common.{◌≡◌, ◌-◌, ◌+◌, ◌≤◌}
use Rattle.made_network.specs.Made.{for_each}
use Rattle.made_network.proofs.network.rows.Given as goal

-- the rows of the earlier numbers
abbrev pub invariant-loop-number : goal.invariant-loop-number
invariant-loop-number g l = (l.rows.items ≡ for_each g.R.MadeRow.row_of (l.number - 1)) × (l.number ≤ l.n + 1)
