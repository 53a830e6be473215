use Rattle.std.proofs.Common.{◌≡◌, ◌≤◌, ◌+◌, ◌++◌, All, drop, length, map}
use Rattle.header_boxes.specs.Boxes.{IsValid}
use Rattle.report_reader.specs.Reports.{row_limit}
use Rattle.listing_reader.specs.Listings.{rows_at}
use Rattle.listing_reader.proofs.rows.read_rows.Given as goal

-- the rows so far and those of what remains are the rows of all lines
abbrev pub invariant-loop-k : goal.invariant-loop-k
invariant-loop-k l = record {
  rest : l.rows.items ++ rows_at l.origin (l.count + l.k + 1) (map (λ t. t.now) (drop l.k l.lines)) ≡ rows_at l.origin (l.count + 1) (map (λ t. t.now) l.lines);
  valid : All (λ r. IsValid r.part) l.rows.items;
  counted : length l.rows.items ≡ l.k;
  few : l.count + l.k ≤ row_limit;
}
