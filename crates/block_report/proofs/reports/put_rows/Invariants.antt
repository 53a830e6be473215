use Rattle.std.proofs.Common.{◌≡◌, ◌+◌, ◌++◌, All, drop, map, take}
use Rattle.block_report.specs.Reports.{HasIds, row_lines_from, told_row}
use Rattle.block_report.proofs.reports.put_rows.Given as goal

abbrev pub invariant-loop-row : goal.invariant-loop-row
invariant-loop-row l = record {
  numbered : l.number ≡ l.row-index + 1;
  rest : l.out.items ++ row_lines_from l.number (map (told_row l.n) (drop l.row-index l.rows)) ≡ l.fn.out.items ++ row_lines_from 1 (map (told_row l.n) l.rows);
  ids : All (λ row. HasIds (told_row l.n row)) (take l.row-index l.rows);
}
