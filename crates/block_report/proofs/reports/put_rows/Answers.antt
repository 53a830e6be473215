use Rattle.std.proofs.Common.{◌+◌, ◌++◌, append_assoc, ap, arith, drop, map, sym, ◌∙◌}
use Rattle.std.proofs.lemmas.List.{get_or_default}
use Rattle.std.proofs.lemmas.List.Elements.{All-map}
use Rattle.vpc_base.proofs.Steps.{All-one_more, All-whole, drop-next}
use Rattle.block_report.specs.Reports.{HasIds, row_lines_from, told_row}
use Rattle.block_report.proofs.reports.put_rows.Goals as goal

pub loop-row-preserved : goal.loop-row-preserved
loop-row-preserved c =
    let rows = c.args.rows.now in
    let k = c.loop-row.row-index in
    let number = c.loop-row.number in
    let told = told_row c.args.n.now in
    let within = c.loop-row-test.true in
    record {
      numbered = omega (arith, c.loop-row.invariant.numbered);
      rest =
          ap (λ out. out ++ row_lines_from (number + 1) (map told (drop (k + 1) rows))) c.in_ok-put_row.ensures.text
          ∙ append_assoc c.loop-row.out.items _ (row_lines_from (number + 1) (map told (drop (k + 1) rows)))
          ∙ ap (λ left. c.loop-row.out.items ++ row_lines_from number (map told left)) (sym (drop-next rows k _ within (get_or_default rows k _ _ within)))
          ∙ c.loop-row.invariant.rest;
      ids = All-one_more (λ row. HasIds (told row)) rows k _ within (get_or_default rows k _ _ within) c.loop-row.invariant.ids c.in_ok-put_row.ensures.ids;
    }

pub returns-clause-ids : goal.returns-clause-ids
returns-clause-ids c =
    let told = told_row c.args.n.now in
    All-map HasIds told c.args.rows.now (All-whole (λ row. HasIds (told row)) c.args.rows.now c.loop-row.row-index c.loop-row-test.false c.loop-row.invariant.ids)
