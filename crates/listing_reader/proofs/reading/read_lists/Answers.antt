use Rattle.std.proofs.Common.{◌≡◌, ◌∙◌, ◌+◌, ◌≤◌, All, List, ap, arith, length, length-drop, nat_lt, subst, sym, ℕ}
use Rattle.header_boxes.specs.Boxes.{IsValid}
use Rattle.vpc_laws.specs.Types.{Row}
use Rattle.report_reader.specs.Reports.{row_limit}
use Rattle.listing_reader.specs.Listings.{row_count}
use Rattle.listing_reader.specs.Reading.{IsRefused}
use Rattle.listing_reader.proofs.ListLemmas.{has_more, if_ok_same, lists-done, lists-next, lists-read, lists-refused, own_rows, row_count-push}
use Rattle.listing_reader.proofs.reading.read_lists.Goals as goal

pub returns-in_err-rows-clause-value : goal.returns-in_err-rows-clause-value
returns-in_err-rows-clause-value c =
    let origins = c.args.origins.now in
    let i = c.loop-origin.origin-index in
    let origin = c.origin-item.result in
    let lines = c.args.lines.now in
    let count = c.loop-origin.count in
    let fault = c.in_err-rows.field-0.0 in
    lists-refused origins i origin c.args.ended lines count c.loop-origin.lists.items fault c.from_residual.result c.loop-origin-test.true c.loop-origin.invariant.counted
    (subst (λ (rows : List (Row (List ℕ))). IsRefused (nat_lt row_limit (count + length rows)) fault) (own_rows origins i origin lines count c.lines_from-others.result.now c.origin-item.is c.lines_from-others.ensures)
    c.in_err-rows.ensures.refused)
    c.loop-origin.invariant.rest c.from_residual.ensures.1

pub loop-origin-preserved : goal.loop-origin-preserved
loop-origin-preserved c =
    let origins = c.args.origins.now in
    let i = c.loop-origin.origin-index in
    let origin = c.origin-item.result in
    let lines = c.args.lines.now in
    let count = c.loop-origin.count in
    let lists = c.loop-origin.lists.items in
    let rows = c.in_ok-rows.rows in
    let all = c.push.new.self.items in
    let more = c.count_with-count.result in
    let own = own_rows origins i origin lines count c.lines_from-others.result.now c.origin-item.is c.lines_from-others.ensures in
    let holds = has_more (λ rs. All (λ r. IsValid r.part) rs) lists all rows i c.loop-origin.invariant.valid c.in_ok-rows.ensures.valid c.loop-origin.invariant.each c.in_ok-push.ensures.items in
    record {
      rest = lists-next origins i origin lines count lists _ more rows all c.loop-origin-test.true (c.in_ok-rows.ensures.value ∙ own) c.count_with-count.ensures c.loop-origin.invariant.rest c.in_ok-push.ensures.items;
      valid = holds.0;
      each = holds.1;
      counted = row_count-push lists all rows count more c.loop-origin.invariant.counted c.count_with-count.ensures c.in_ok-push.ensures.items;
      few = omega (arith, c.count_with-count.ensures, c.in_ok-rows.ensures.few);
      within = omega (arith, c.count_with-count.ensures, c.in_ok-rows.ensures.within, ap length c.lines_from-others.ensures, length-drop count lines, c.loop-origin.invariant.within);
    }

pub returns-clause-value : goal.returns-clause-value
returns-clause-value c =
    let origins = c.args.origins.now in
    let lines = c.args.lines.now in
    let count = c.loop-origin.count in
    let done = lists-done origins c.loop-origin.origin-index lines count c.loop-origin.lists.items _ c.of.result (omega arith) c.loop-origin.invariant.rest c.of.ensures in
    lists-read origins c.args.ended lines count c.of.result c.before_end.result c.lines_from-end.result.now c.lines_from-end.ensures done (ap row_count c.of.ensures ∙ c.loop-origin.invariant.counted) c.loop-origin.invariant.few
    c.before_end.ensures.value

pub returns-clause-valid : goal.returns-clause-valid
returns-clause-valid c =
    if_ok_same _ c.of.result c.before_end.result c.before_end.ensures.same
    (subst (λ (ls : List (List (Row (List ℕ)))). All (λ rows. All (λ r. IsValid r.part) rows) ls) (sym c.of.ensures) c.loop-origin.invariant.valid)

pub returns-clause-few : goal.returns-clause-few
returns-clause-few c =
    let count : row_count c.of.result ≤ row_limit = omega (arith, ap row_count c.of.ensures, c.loop-origin.invariant.counted, c.loop-origin.invariant.few) in
    if_ok_same _ c.of.result c.before_end.result c.before_end.ensures.same count

pub returns-clause-count : goal.returns-clause-count
returns-clause-count c =
    let all : length c.of.result ≡ length c.args.origins.now = omega (arith, ap length c.of.ensures, c.loop-origin.invariant.each) in
    if_ok_same _ c.of.result c.before_end.result c.before_end.ensures.same all
