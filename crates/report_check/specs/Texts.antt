-- How what is found of a report is printed.
use Rattle.std.specs.Prelude.{◌++◌, List, codes, decimal, ℕ}
use Rattle.block_report.specs.Walks.{told_text}
use Rattle.block_report.specs.Words.{header_text, line_end, word}
use Rattle.vpc_laws.specs.Sound.{IsTold}
use Rattle.vpc_laws.specs.Types.{Description, Verdict}
use Rattle.vpc_model.specs.Told.{told_stop}
use Rattle.vpc_model.specs.declared.outcomes.Verdict.TheVariants as verdicts
use Rattle.report_check.specs.declared.checked.Checked.{Checked}
use Rattle.report_check.specs.declared.checked.Checked.TheVariants as found

-- that a request gets through, or what stops it or its reply
abbrev pub verdict_text : Description → Verdict → List ℕ
verdict_text d verdicts.Through = codes "through"
verdict_text d (verdicts.Stopped phase s) = told_text (told_stop d phase s)

-- two rows that share a header
abbrev pub overlap_text : ℕ → ℕ → List ℕ
overlap_text i j = codes "no overlap" ++ word (decimal i) ++ word (decimal j)

-- yes, or why not
abbrev pub checked_text : Description → Checked → List ℕ
checked_text d found.Yes = codes "yes"
checked_text d (found.Overlap i j) = overlap_text i j
checked_text d (found.Uncovered h) = codes "no uncovered" ++ word (header_text h)
checked_text d (found.Untrue i h v) = codes "no untrue" ++ word (decimal i) ++ word (header_text h) ++ word (verdict_text d v)

-- its line
abbrev pub checked_line : Description → Checked → List ℕ
checked_line d c = checked_text d c ++ line_end

-- what becomes of the header that a row isn't true of has a text
abbrev pub CanBeTold : Description → Checked → Type 0
CanBeTold d found.Yes = Unit {0}
CanBeTold d (found.Overlap i j) = Unit {0}
CanBeTold d (found.Uncovered h) = Unit {0}
CanBeTold d (found.Untrue i h v) = IsTold d v
