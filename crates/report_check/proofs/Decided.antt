-- What `check` answers is decided by the report, and tells of no device.
use Rattle.std.proofs.Common.{◌≡◌, ◌∙◌, Err, List, Ok, refl, subst, sym, ℕ}
use Rattle.report_reader.specs.Reports.{report_of_text}
use Rattle.report_reader.specs.declared.report.Report.{Report}
use Rattle.report_reader.specs.declared.report.ReportFault.{ReportFault}
use Rattle.report_reader.specs.declared.report.ReportFault.TheVariants as faults
use Rattle.vpc_laws.specs.Types.{Description}
use Rattle.command_job.specs.Status.{IsOfDevice}
use Rattle.command_job.specs.declared.status.Status.{Status}
use Rattle.command_job.specs.declared.status.Status.TheVariants as ends
use Rattle.command_job.proofs.Devices.{no_device, no_is_none, query_is_none, yes_is_none}
use Rattle.report_check.specs.Certified.{IsCheckDecided, IsCheckedFrom, IsReportDecided, checked_status}
use Rattle.report_check.specs.Certified as checks
use Rattle.report_check.specs.Checked.{IsChecked}
use Rattle.report_check.specs.declared.checked.Checked.{Checked}
use Rattle.report_check.specs.declared.checked.Checked.TheVariants as found
use Rattle.report_check.proofs.Truth.{yes_if_true}

no_report : (d : Description) (bytes : List ℕ) (fault : ReportFault) (r : Report) → report_of_text d bytes ≡ Err fault → report_of_text d bytes ≡ Ok r → ⊥
no_report d bytes fault r bad good = let wrong : Err fault ≡ Ok r = sym bad ∙ good in cc

one_report : (d : Description) (bytes : List ℕ) (r s : Report) → report_of_text d bytes ≡ Ok r → report_of_text d bytes ≡ Ok s → r ≡ s
one_report d bytes r s a b = let e : Ok r ≡ Ok s = sym a ∙ b in cc

-- a true report gets a yes, and every other a no
not_found : (d : Description) (r : Report) (c : Checked) (status : Status) → ((c ≡ found.Yes) → ⊥) → IsChecked d r c → status ≡ ends.No → IsReportDecided d r status
not_found d r c status other is status_is = record { yes = λ truth. absurd (other (yes_if_true d r c is truth)); no = λ untrue. status_is }

found_decides : (d : Description) (r : Report) (c : Checked) → IsChecked d r c → IsReportDecided d r (checked_status c)
found_decides d r found.Yes is = record { yes = λ truth. refl; no = λ untrue. absurd (untrue is) }
found_decides d r (found.Overlap i j) is = not_found d r (found.Overlap i j) ends.No (λ same. cc) is refl
found_decides d r (found.Uncovered h) is = not_found d r (found.Uncovered h) ends.No (λ same. cc) is refl
found_decides d r (found.Untrue i h v) is = not_found d r (found.Untrue i h v) ends.No (λ same. cc) is refl

pub check_is_decided : (d : Description) (bytes : List ℕ) (status : Status) (text : List ℕ) → IsCheckedFrom d bytes status text → IsCheckDecided d bytes status
check_is_decided d bytes status text (checks.bad_line number bad status_is says) r good = absurd (no_report d bytes (faults.BadLine number) r bad good)
check_is_decided d bytes status text (checks.too_many number bad status_is says) r good = absurd (no_report d bytes (faults.TooManyBoxes number) r bad good)
check_is_decided d bytes status text (checks.told x is verdict) r good =
    subst (λ (y : Report). IsReportDecided d y status) (one_report d bytes x r is good)
    (subst (IsReportDecided d x) (sym verdict.status_is) (found_decides d x verdict.found verdict.checked))

checked_is_none : (c : Checked) → IsOfDevice (checked_status c) → ⊥
checked_is_none found.Yes is = yes_is_none is
checked_is_none (found.Overlap i j) is = no_is_none is
checked_is_none (found.Uncovered h) is = no_is_none is
checked_is_none (found.Untrue i h v) is = no_is_none is

pub check_is_none : (d : Description) (bytes : List ℕ) (status : Status) (text : List ℕ) → IsCheckedFrom d bytes status text → IsOfDevice status → ⊥
check_is_none d bytes status text (checks.bad_line number is status_is says) h = no_device status ends.Query status_is query_is_none h
check_is_none d bytes status text (checks.too_many number is status_is says) h = no_device status ends.Query status_is query_is_none h
check_is_none d bytes status text (checks.told r is verdict) h = no_device status (checked_status verdict.found) verdict.status_is (checked_is_none verdict.found) h
