use Rattle.std.proofs.Common.{◌≤◌, All, List, ap, arith, length, subst, sym, ℕ}
use Rattle.vpc_base.proofs.Results.{if_ok}
use Rattle.header_boxes.specs.Boxes.{IsValid}
use Rattle.header_boxes.specs.declared.rows.Row.{Row}
use Rattle.listing_check.proofs.Decided.{checked_if_fault, checked_if_read, lists_counted}
use Rattle.listing_reader.specs.Listings.{row_count}
use Rattle.report_reader.specs.Reports.{row_limit}
use Rattle.listing_check.proofs.answers.answer_lines.Goals as goal

pub answer_lists-requires-clause-count : goal.answer_lists-requires-clause-count
answer_lists-requires-clause-count g c =
    lists_counted (g.Q.Question.asked c.args.q.now) c.args.origins.now c.in-Ok.lists c.as_slice.result.now c.requires.origins c.as_slice.ensures c.in-Ok.ensures.count

pub answer_lists-requires-clause-starts : goal.answer_lists-requires-clause-starts
answer_lists-requires-clause-starts g c =
    let lent = ap length c.as_slice.ensures in
    let count = c.in-Ok.ensures.count in
    let starts = c.requires.starts in
    omega (arith, lent, count, starts)

pub answer_lists-requires-clause-valid : goal.answer_lists-requires-clause-valid
answer_lists-requires-clause-valid g c =
    subst (λ (lists : List (List (Row (List ℕ)))). All (λ (rows : List (Row (List ℕ))). All (λ (r : Row (List ℕ)). IsValid r.part) rows) lists) (sym c.as_slice.ensures) c.in-Ok.ensures.valid

pub answer_lists-requires-clause-few : goal.answer_lists-requires-clause-few
answer_lists-requires-clause-few g c = subst (λ (lists : List (List (Row (List ℕ)))). row_count lists ≤ row_limit) (sym c.as_slice.ensures) c.in-Ok.ensures.few

pub returns-in-Ok : goal.returns-in-Ok
returns-in-Ok g c =
    if_ok _ _ c.answer_lists.result
    (λ a verdict. checked_if_read (g.Q.Question.asked c.args.q.now) c.args.origins.now c.args.ended _ c.in-Ok.lists c.as_slice.result.now a.status a.text.items c.requires.origins c.as_slice.ensures c.in-Ok.ensures.value verdict)
    c.answer_lists.ensures

pub returns-in-Err : goal.returns-in-Err
returns-in-Err g c =
    if_ok _ _ c.refuse_fault.result
    (λ a told. checked_if_fault (g.Q.Question.asked c.args.q.now) c.args.origins.now c.args.ended _ c.in-Err.fault a.status a.text.items c.requires.origins c.in-Err.ensures.value told)
    c.refuse_fault.ensures
