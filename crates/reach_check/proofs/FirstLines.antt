-- A report is no listing, by its first line.
use Rattle.std.proofs.Common.{◌≡◌, ◌∙◌, ◌∷◌, [], Bool, Err, List, Ok, codes, false, refl, sym, true, ℕ}
use Rattle.std.proofs.lemmas.Slice.Eq.{bytes_eq-Decides}
use Rattle.report_reader.specs.Reports.{is_ended, lines_of, pieces_of, report_in, report_of_text}
use Rattle.report_reader.specs.declared.report.Report.{Report}
use Rattle.report_reader.specs.declared.report.ReportFault.TheVariants as faults
use Rattle.vpc_laws.specs.Types.{Description}
use Rattle.listing_check.specs.Lines.{all_lines, begins_with}

-- lines that begin with that of a listing of `reach` are no report
no_report : (d : Description) (line : List ℕ) (lines : List (List ℕ)) (ended : Bool) (r : Report) → line ≡ codes "vpc-reach 1" → report_in d (line ∷ lines) ended ≡ Ok r → ⊥
no_report d line lines ended r is reads =
    let bad : report_in d (codes "vpc-reach 1" ∷ lines) ended ≡ Err (faults.BadLine 1) = refl in
    let same : report_in d (codes "vpc-reach 1" ∷ lines) ended ≡ Ok r = rw is at reads in
    let wrong : Err (faults.BadLine 1) ≡ Ok r = sym bad ∙ same in
    cc

by_first : (d : Description) (lines : List (List ℕ)) (ended : Bool) (r : Report) (b : Bool) → begins_with (codes "vpc-reach 1") lines ≡ b → report_in d lines ended ≡ Ok r → b ≡ false
by_first d lines ended r false is reads = refl
by_first d [] ended r true is reads = absurd (cc)
by_first d (line ∷ lines) ended r true is reads =
    let decides = bytes_eq-Decides line (codes "vpc-reach 1") in
    absurd (no_report d line lines ended r (decides.0 is) reads)

pub no_listing : (d : Description) (text : List ℕ) (r : Report) → report_of_text d text ≡ Ok r → begins_with (codes "vpc-reach 1") (all_lines text) ≡ false
no_listing d text r reads = by_first d (lines_of (pieces_of text)) (is_ended (pieces_of text)) r (begins_with (codes "vpc-reach 1") (all_lines text)) refl reads
