-- What `check` answers to a report, in a described network.
use Rattle.std.specs.Prelude.{◌++◌, ◌≡◌, Err, List, Ok, codes, decimal, ℕ}
use Rattle.block_report.specs.Words.{word}
use Rattle.report_check.specs.Checked.{IsChecked, IsReportTrue}
use Rattle.report_check.specs.Texts.{checked_line}
use Rattle.report_check.specs.declared.checked.Checked.{Checked}
use Rattle.report_check.specs.declared.checked.Checked.TheVariants as found
use Rattle.report_reader.specs.Reports.{report_of_text}
use Rattle.report_reader.specs.declared.report.Report.{Report}
use Rattle.report_reader.specs.declared.report.ReportFault.{ReportFault}
use Rattle.report_reader.specs.declared.report.ReportFault.TheVariants as faults
use Rattle.vpc_model.specs.declared.rows.Description.{Description}
use Rattle.command_job.specs.Lines.{file_refusal_line}
use Rattle.command_job.specs.declared.status.Status.{Status}
use Rattle.command_job.specs.declared.status.Status.TheVariants as ends

-- the line of a refusal of the report
abbrev pub report_refusal_line : List ℕ → List ℕ
report_refusal_line cause = file_refusal_line (codes "report") cause

-- the cause against a report with too many rows
abbrev pub too_many_text : ℕ → List ℕ
too_many_text number = codes "TooManyBoxes" ++ word (decimal number)

-- what is answered for what is wrong with the lines; nothing where memory was wanting
abbrev pub IsFaultTold : ReportFault → Status → List ℕ → Type 0
IsFaultTold (faults.BadLine number) status text = (status ≡ ends.Query) × (text ≡ report_refusal_line (decimal number))
IsFaultTold (faults.TooManyBoxes number) status text = (status ≡ ends.Query) × (text ≡ report_refusal_line (too_many_text number))
IsFaultTold faults.Memory status text = ⊥

-- yes where nothing was found against the report
abbrev pub checked_status : Checked → Status
checked_status found.Yes = ends.Yes
checked_status (found.Overlap i j) = ends.No
checked_status (found.Uncovered h) = ends.No
checked_status (found.Untrue i h v) = ends.No

-- what is found of the report, and told
pub record IsVerdict (d : Description) (r : Report) (status : Status) (text : List ℕ) : Type 0 where
  pub found : Checked
  pub checked : IsChecked d r found
  pub status_is : status ≡ checked_status found
  pub text_is : text ≡ checked_line d found

-- what is answered to the bytes of the report: the first line that isn't in the grammar, or what is found of the report
pub data IsCheckedFrom (d : Description) (bytes : List ℕ) (status : Status) (text : List ℕ) : Type 0 where
  bad_line : (number : ℕ) → report_of_text d bytes ≡ Err (faults.BadLine number) → status ≡ ends.Query → text ≡ report_refusal_line (decimal number) → IsCheckedFrom d bytes status text
  too_many : (number : ℕ) → report_of_text d bytes ≡ Err (faults.TooManyBoxes number) → status ≡ ends.Query → text ≡ report_refusal_line (too_many_text number) → IsCheckedFrom d bytes status text
  told : (r : Report) → report_of_text d bytes ≡ Ok r → IsVerdict d r status text → IsCheckedFrom d bytes status text

-- yes exactly where the report is true, and else no
pub record IsReportDecided (d : Description) (r : Report) (status : Status) : Type 0 where
  pub yes : IsReportTrue d r → status ≡ ends.Yes
  pub no : ¬ (IsReportTrue d r) → status ≡ ends.No

-- where the bytes are a report, it is decided
abbrev pub IsCheckDecided : Description → List ℕ → Status → Type 0
IsCheckDecided d bytes status = (r : Report) → report_of_text d bytes ≡ Ok r → IsReportDecided d r status
