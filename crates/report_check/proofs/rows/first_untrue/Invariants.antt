use Rattle.std.proofs.Common.{◌≡◌, take}
use Rattle.report_check.specs.Checked.{AreTrue}
use Rattle.report_check.proofs.rows.first_untrue.Given as goal

abbrev pub invariant-loop-row : goal.invariant-loop-row
invariant-loop-row g l = record {
  number : l.number ≡ l.row-index;
  before : AreTrue l.f l.report (take l.row-index l.rows);
}
