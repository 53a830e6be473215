-- What is answered for what is wrong with the lines of a report.
use Rattle.std.proofs.Common.{Err, List, ℕ}
use Rattle.command_job.specs.declared.status.Status.{Status}
use Rattle.report_reader.specs.Reports.{IsRead, report_of_text}
use Rattle.report_reader.specs.declared.report.ReportFault.{ReportFault}
use Rattle.report_reader.specs.declared.report.ReportFault.TheVariants as faults
use Rattle.vpc_laws.specs.Types.{Description}
use Rattle.report_check.specs.Certified.{IsCheckedFrom, IsFaultTold}
use Rattle.report_check.specs.Certified as checks

pub checked_if_fault : (d : Description) (bytes : List ℕ) (fault : ReportFault) (status : Status) (text : List ℕ) → IsRead (report_of_text d bytes) (Err fault) → IsFaultTold fault status text
    → IsCheckedFrom d bytes status text
checked_if_fault d bytes (faults.BadLine number) status text is told = checks.bad_line number is told.0 told.1
checked_if_fault d bytes (faults.TooManyBoxes number) status text is told = checks.too_many number is told.0 told.1
checked_if_fault d bytes faults.Memory status text is told = absurd told
