use Rattle.std.proofs.Common.{◌≡◌, take}
use Rattle.report_check.specs.Checked.{boxes_of}
use Rattle.report_check.proofs.checked.boxes_of.Given as goal

abbrev pub invariant-loop-row : goal.invariant-loop-row
invariant-loop-row l = l.boxes.items ≡ boxes_of (take l.row-index l.rows)
