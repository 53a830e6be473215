use Rattle.header_boxes.specs.Boxes.{IsWithin}
use Rattle.report_reader.specs.Reports.{row_limit}
use Rattle.report_reader.proofs.Within.{has_more}
use Rattle.report_reader.proofs.RowLemmas.{rows-end, rows-next, rows-refused}
use Rattle.report_reader.proofs.row_lists.read_rows.Goals as goal

pub returns-in_err-row-clause-value : goal.returns-in_err-row-clause-value
returns-in_err-row-clause-value c =
    rows-refused c.args.whole.now c.args.ended c.is_last-last.result c.args.lines.now c.loop-k.k _ c.loop-k.rows.items c.in_err-row.field-0.0 _ c.from_residual.result
    c.loop-k-test.true c.is_last-last.ensures c.in_err-row.ensures.value c.loop-k.invariant.rest c.from_residual.ensures.1

pub returns-in-None-clause-value : goal.returns-in-None-clause-value
returns-in-None-clause-value c =
    rows-end c.args.whole.now c.args.ended c.is_last-last.result c.args.lines.now c.loop-k.k _ c.loop-k.rows.items c.of.result c.in_ok-row.field-0 _
    c.loop-k-test.true c.is_last-last.ensures c.in_ok-row.ensures.value c.in-None.is c.loop-k.invariant.rest c.of.ensures

pub loop-k-preserved : goal.loop-k-preserved
loop-k-preserved c =
    let all = c.push.new.self.items in
    let more = has_more (λ r. IsWithin r.part c.args.whole.now) c.loop-k.rows.items all c.in-Some.row c.in_ok-row.field-0 c.loop-k.k row_limit
    c.loop-k.invariant.within c.loop-k.invariant.count c.in_ok-row.ensures.within c.in_ok-row.ensures.few c.in-Some.is c.in_ok-push-in-Some.ensures.items in
    record {
      rest = rows-next c.args.whole.now c.args.ended c.is_last-last.result c.args.lines.now c.loop-k.k _ c.loop-k.rows.items all c.in-Some.row c.in_ok-row.field-0 _
          c.loop-k-test.true c.is_last-last.ensures c.in_ok-row.ensures.value c.in-Some.is c.loop-k.invariant.rest c.in_ok-push-in-Some.ensures.items;
      within = more.within;
      count = more.count;
      few = more.few;
    }
