use Rattle.std.proofs.Common.{◌≡◌, ◌+◌, ◌++◌, drop}
use Rattle.end_reach.specs.Texts.{row_lines_from}
use Rattle.end_reach.proofs.rows.put_rows.Given as goal

abbrev pub invariant-loop-row : goal.invariant-loop-row
invariant-loop-row l = record {
  numbered : l.number ≡ l.first + l.row-index;
  rest : l.out.items ++ row_lines_from l.n l.number l.start (drop l.row-index l.rows) ≡ l.fn.out.items ++ row_lines_from l.n l.first l.start l.rows;
}
