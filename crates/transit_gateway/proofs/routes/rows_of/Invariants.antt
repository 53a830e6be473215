use Rattle.std.proofs.Common.{◌≡◌, ◌++◌, drop, take}
use Rattle.std.specs.List.{All}
use Rattle.prefix_text.specs.Block.{IsBlock}
use Rattle.transit_gateway.specs.Rows.{rows_of}
use Rattle.transit_gateway.proofs.routes.rows_of.Given as goal

abbrev pub invariant-loop-number : goal.invariant-loop-number
invariant-loop-number l = (l.rows.items ++ rows_of l.number (drop l.number l.routes) ≡ rows_of 0 l.routes) × All (λ r. IsBlock r.block) (take l.number l.routes)
