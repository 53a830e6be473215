use Rattle.header_boxes.specs.Boxes.{IsValid}
use Rattle.report_reader.specs.Reports.{row_limit}
use Rattle.listing_reader.proofs.RowLemmas.{has_more, rows-end, rows-next, rows-refused}
use Rattle.listing_reader.proofs.rows.read_rows.Goals as goal

pub returns-in_err-row-clause-refused : goal.returns-in_err-row-clause-refused
returns-in_err-row-clause-refused c =
    rows-refused c.args.origin.now c.args.count c.args.lines.now c.loop-k.k _ c.loop-k.rows.items _ c.in_err-row.field-0.0 c.from_residual.result
    c.loop-k-test.true c.loop-k.invariant.counted c.in_err-row.ensures.refused c.loop-k.invariant.rest c.from_residual.ensures.1

pub returns-in-None-clause-value : goal.returns-in-None-clause-value
returns-in-None-clause-value c =
    rows-end c.args.origin.now c.args.count c.args.lines.now c.loop-k.k _ c.loop-k.rows.items _ c.of.result c.in_ok-row.field-0
    c.loop-k-test.true c.in_ok-row.ensures.value c.in-None.is c.loop-k.invariant.rest c.of.ensures

pub loop-k-preserved : goal.loop-k-preserved
loop-k-preserved c =
    let all = c.push.new.self.items in
    let more = has_more (λ r. IsValid r.part) c.loop-k.rows.items all c.in-Some.row c.in_ok-row.field-0 c.loop-k.k c.args.count row_limit
    c.loop-k.invariant.valid c.loop-k.invariant.counted c.in_ok-row.ensures.valid c.in_ok-row.ensures.few c.in-Some.is c.in_ok-push-in-Some.ensures.items in
    record {
      rest = rows-next c.args.origin.now c.args.count c.args.lines.now c.loop-k.k _ c.loop-k.rows.items _ all c.in-Some.row c.in_ok-row.field-0
          c.loop-k-test.true c.in_ok-row.ensures.value c.in-Some.is c.loop-k.invariant.rest c.in_ok-push-in-Some.ensures.items;
      valid = more.holds;
      counted = more.counted;
      few = more.few;
    }
