use Rattle.std.proofs.Common.{take}
use Rattle.route_tables.specs.Rows.{AreBlocks, counted_rows_of}
use Rattle.route_tables.proofs.Giving.{HasGiven}
use Rattle.route_tables.proofs.counted.counted_rows.Given as goal

abbrev pub invariant-loop-number : goal.invariant-loop-number
invariant-loop-number g l = HasGiven (counted_rows_of l.n l.locals) l.routes l.number l.rows.items l.seen × AreBlocks l.n (take l.number l.routes)
