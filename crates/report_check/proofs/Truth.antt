-- A report gets a yes exactly where it is true.
use Rattle.std.proofs.Common.{◌-◌, ◌≡◌, ◌∙◌, List, ap, refl, subst, sym, ℕ}
use Rattle.std.proofs.lemmas.Option.{get_or_from_slice_get, slice_get_within}
use Rattle.header_boxes.specs.Rows.{HasWord, IsFirstOutside, AreWhole}
use Rattle.report_reader.specs.Reports.{IsSoundReport, rows_of}
use Rattle.report_reader.specs.declared.report.Report.{Report}
use Rattle.vpc_laws.proofs.Telling.{verdicts_are_told}
use Rattle.vpc_laws.specs.Sound.{IsTold}
use Rattle.vpc_laws.specs.Types.{Box5, Description, Header, Row, StopText, Verdict}
use Rattle.vpc_model.specs.Accepted.{IsAccepted}
use Rattle.vpc_model.specs.Appliances.{appliances_of}
use Rattle.vpc_model.specs.Report.{ending_of}
use Rattle.report_check.proofs.Boxes.{no_overlap}
use Rattle.report_check.specs.Checked.{AreTrue, IsChecked, IsLeastUntrue, IsReportTrue, YesIsTruth, meaning_in}
use Rattle.report_check.specs.declared.checked.Checked.{Checked}
use Rattle.report_check.specs.declared.checked.Checked.TheVariants as found

-- ---- the answers

none_outside : (whole : Box5) (rows : List (Row StopText)) (h : Header) → AreWhole whole rows → IsFirstOutside whole rows h → ⊥
none_outside box rows h whole is = absurd (cc (whole h is.inside, is.outside))

none_untrue : (d : Description) (r : Report) (i : ℕ) (h : Header) (v : Verdict) → AreTrue d r (rows_of r) → IsLeastUntrue d r i h v → ⊥
none_untrue d r i h v are is =
    let stands : HasWord (meaning_in d r) is.row = subst (HasWord (meaning_in d r)) (get_or_from_slice_get (rows_of r) (i - 1) is.row is.row is.stands)
    (are (i - 1) is.row (slice_get_within (rows_of r) (i - 1) is.row is.stands)) in
    is.untrue.other (ap (ending_of d) is.untrue.verdict ∙ stands h is.untrue.inside)

pub yes_if_true : (d : Description) (r : Report) (c : Checked) → IsChecked d r c → IsReportTrue d r → c ≡ found.Yes
yes_if_true d r found.Yes checked are = refl
yes_if_true d r (found.Overlap i j) checked are = absurd (no_overlap (rows_of r) (i - 1) (j - 1) are.are_true.disjoint checked.least)
yes_if_true d r (found.Uncovered h) checked are = absurd (none_outside r.sides (rows_of r) h are.holds_all checked.1)
yes_if_true d r (found.Untrue i h v) checked are = absurd (none_untrue d r i h v are.are_true.word checked.1.1)

pub yes_is_truth : YesIsTruth
yes_is_truth d r c checked = (λ is. subst (IsChecked d r) is checked, yes_if_true d r c checked)

-- ---- what becomes of a header has a text

pub told_if_least : (d : Description) (r : Report) (i : ℕ) (h : Header) (v : Verdict) → IsAccepted d → IsSoundReport d r → IsLeastUntrue d r i h v → IsTold d v
told_if_least d r i h v accepted sound is =
    subst (IsTold d) (sym is.untrue.verdict) (verdicts_are_told d (appliances_of d) r.start r.goal h accepted sound.start sound.goal)
