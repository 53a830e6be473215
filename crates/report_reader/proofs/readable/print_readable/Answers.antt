use Rattle.std.proofs.Common.{◌≤◌, subst, sym, ℕ}
use Rattle.std.proofs.lemmas.List.{length-map}
use Rattle.vpc_base.proofs.Results.{if_ok_two}
use Rattle.block_report.specs.Reports.{AreIds, told_row, told_rows}
use Rattle.report_reader.proofs.Printing.{named_is_described, reads_if_printed, short_if_printed}
use Rattle.report_reader.specs.ReadsBack.{IsPrintable, Listed}
use Rattle.report_reader.specs.Reports.{row_limit}
use Rattle.report_reader.proofs.readable.print_readable.Goals as goal

pub print_report-requires : goal.print_report-requires
print_report-requires c = record {
  start = named_is_described c.args.n.now c.args.start c.requires.ends.start;
  goal = named_is_described c.args.n.now c.args.goal c.requires.ends.goal;
  rows = c.requires.rows;
}

-- the report that is printed
abbrev printed : goal.After-print_report → Listed
printed c = record { start = c.args.start; goal = c.args.goal; sides = c.args.sides.now; rows = told_rows c.args.n.now c.args.rows.now }

printable : (c : goal.After-print_report) → AreIds c.args.n.now c.args.start c.args.goal (told_rows c.args.n.now c.args.rows.now) → IsPrintable c.args.n.now (printed c)
printable c ids = record {
  ends = c.requires.ends;
  valid = c.requires.sides;
  fits = c.ends_fit.ensures;
  few = subst (λ (n : ℕ). n ≤ row_limit) (sym (length-map c.args.rows.now (told_row c.args.n.now))) c.requires.few;
  within = c.requires.within;
  ids = ids;
}

pub returns-clause-reads_back : goal.returns-clause-reads_back
returns-clause-reads_back c =
    if_ok_two _ _ _ c.print_report.result
    (λ text is ids. reads_if_printed c.args.n.now (printed c) text.items c.description.ensures.accepted (printable c ids) is)
    c.print_report.ensures.text c.print_report.ensures.ids

pub returns-clause-short : goal.returns-clause-short
returns-clause-short c =
    if_ok_two _ _ _ c.print_report.result
    (λ text is ids. short_if_printed c.args.n.now (printed c) text.items c.description.ensures.accepted (printable c ids) is)
    c.print_report.ensures.text c.print_report.ensures.ids
