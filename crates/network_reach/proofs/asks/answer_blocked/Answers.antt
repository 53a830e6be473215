use Rattle.std.proofs.Common.{◌≤◌, arith, refl, subst, sym, ℕ}
use Rattle.std.proofs.lemmas.List.{length-map}
use Rattle.block_report.specs.Reports.{told_row, told_rows}
use Rattle.network_reach.proofs.asks.answer_blocked.Goals as goal

pub print_readable-requires : goal.print_readable-requires
print_readable-requires c = record {
  ends = c.requires.query.ends;
  sides = c.requires.query.known.sides;
  rows = c.requires.told;
  within = c.requires.report.report.are_true.within;
  few = omega (arith, c.requires.few, c.requires.listed);
}

pub returns : goal.returns
returns c = (
  refl,
  record {
    listed = c.requires.listed;
    rows = told_rows c.args.n.now c.args.rows.now;
    report = c.requires.report;
    joined = c.requires.joined;
    few = subst (λ (n : ℕ). n ≤ c.args.query.now.max) (sym (length-map c.args.rows.now (told_row c.args.n.now))) c.requires.few;
    text_is = c.in_ok-text.ensures.text;
    reads = c.in_ok-text.ensures.reads_back;
    short = c.in_ok-text.ensures.short;
  },
)
