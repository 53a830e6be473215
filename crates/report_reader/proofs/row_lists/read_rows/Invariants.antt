use Rattle.std.proofs.Common.{◌≡◌, ◌≤◌, All, drop, length, map}
use Rattle.header_boxes.specs.Boxes.{IsWithin}
use Rattle.report_reader.specs.Reports.{row_limit, rows_from}
use Rattle.report_reader.proofs.RowLemmas.{after_rows}
use Rattle.report_reader.proofs.row_lists.read_rows.Given as goal

-- the rows so far and what remains are what all lines say
abbrev pub invariant-loop-k : goal.invariant-loop-k
invariant-loop-k l = record {
  rest : after_rows l.rows.items (rows_from l.whole l.ended l.k (map (λ t. t.now) (drop l.k l.lines))) ≡ rows_from l.whole l.ended 0 (map (λ t. t.now) l.lines);
  within : All (λ r. IsWithin r.part l.whole) l.rows.items;
  count : length l.rows.items ≡ l.k;
  few : l.k ≤ row_limit;
}
