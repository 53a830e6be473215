-- What is read of a row, and why none is.
use Rattle.std.specs.List.{list_any}
use Rattle.std.specs.Prelude.{◌≡◌, ◌+◌, if◌then◌else◌, Bool, Err, List, None, Ok, Option, Result, Some, option_map, true, ℕ}
use Rattle.vpc_laws.specs.Types.{Box5, Row}
use Rattle.report_reader.specs.Boxes.{◌>>=◌, is_inside}
use Rattle.report_reader.specs.Lines.{is_end_line}
use Rattle.report_reader.specs.Reports.{row_limit}
use Rattle.report_reader.specs.declared.report.ReportFault.{ReportFault}
use Rattle.report_reader.specs.declared.report.ReportFault.TheVariants as faults

-- the box, where it lies in one of those that are asked for
abbrev pub asked_part : List Box5 → Option Box5 → Option Box5
asked_part boxes part = part >>= (λ part. if list_any (is_inside part) boxes then Some part else None)

-- the row of a box, with what is told
abbrev pub row_with : List ℕ → Option Box5 → Option (Row (List ℕ))
row_with told part = option_map (λ part. record { part = part; word = told }) part

-- rows are read no further: there is one too many, or memory was wanting
abbrev pub IsRefused : Bool → ReportFault → Type 0
IsRefused past (faults.BadLine number) = ⊥
IsRefused past (faults.TooManyBoxes number) = (number ≡ row_limit + 3) × (past ≡ true)
IsRefused past faults.Memory = Unit {0}

-- the line after so many rows is the end, and the last
abbrev pub end_line_after : ℕ → Bool → List (List ℕ) → Result (Unit {0}) ReportFault
end_line_after count last words =
    if is_end_line count words then (if last then Ok tt else Err (faults.BadLine (count + 4)))
    else Err (faults.BadLine (count + 3))
