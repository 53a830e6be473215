use Rattle.std.proofs.Common.{◌≤◌, take}
use Rattle.std.specs.List.{All}
use Rattle.security_groups.specs.Tables.{AreTops}
use Rattle.security_groups.proofs.port_tables.tops_of.Given as goal

abbrev pub invariant-loop-last : goal.invariant-loop-last
invariant-loop-last l = AreTops (take l.last-index l.lasts) l.tops.items × All (λ t. t ≤ l.top) l.tops.items
