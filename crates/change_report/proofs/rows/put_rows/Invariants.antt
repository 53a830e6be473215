use Rattle.std.proofs.Common.{◌≡◌, ◌+◌, ◌++◌, drop}
use Rattle.change_report.specs.Texts.{row_lines_from}
use Rattle.change_report.proofs.rows.put_rows.Given as goal

abbrev pub invariant-loop-row : goal.invariant-loop-row
invariant-loop-row l = record {
  numbered : l.number ≡ l.first + l.row-index;
  rest : l.out.items ++ row_lines_from l.before l.after l.number l.id (drop l.row-index l.rows) ≡ l.fn.out.items ++ row_lines_from l.before l.after l.first l.id l.rows;
}
