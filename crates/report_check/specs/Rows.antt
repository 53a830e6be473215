-- What is found of the rows of a report, one after the other.
use Rattle.std.specs.Prelude.{None, Option, Some}
use Rattle.vpc_laws.specs.Types.{Description}
use Rattle.report_reader.specs.Reports.{rows_of}
use Rattle.report_reader.specs.declared.report.Report.{Report}
use Rattle.report_check.specs.Checked.{AreTrue, IsLeastUntrue}
use Rattle.report_check.specs.declared.rows.Untrue.{Untrue}

-- the first row that isn't true of all its headers; none where all rows are true
abbrev pub IsRowSearch : Description → Report → Option Untrue → Type 0
IsRowSearch d r None = AreTrue d r (rows_of r)
IsRowSearch d r (Some u) = IsLeastUntrue d r u.number u.header u.verdict
