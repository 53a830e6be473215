use Rattle.std.proofs.Common.{◌≡◌, ◌≤◌, ◌+◌, ◌++◌, All, drop, length, map}
use Rattle.header_boxes.specs.Boxes.{IsValid}
use Rattle.report_reader.specs.Reports.{row_limit}
use Rattle.listing_reader.specs.Listings.{lists_at, row_count}
use Rattle.listing_reader.proofs.reading.read_lists.Given as goal

-- the lists so far and those of what remains are the lists of all starts
abbrev pub invariant-loop-origin : goal.invariant-loop-origin
invariant-loop-origin l = record {
  rest : l.lists.items ++ lists_at (drop l.origin-index l.origins) (l.count + 1) (map (λ t. t.now) (drop l.count l.lines)) ≡ lists_at l.origins 1 (map (λ t. t.now) l.lines);
  valid : All (λ rows. All (λ r. IsValid r.part) rows) l.lists.items;
  each : length l.lists.items ≡ l.origin-index;
  counted : row_count l.lists.items ≡ l.count;
  few : l.count ≤ row_limit;
  within : l.count ≤ length l.lines;
}
