-- What is printed about a query is read again.
use Rattle.std.proofs.Common.{◌≡◌, ◌≤◌, List, Ok, length, refl, subst, sym, true, ℕ}
use Rattle.std.proofs.lemmas.Bool.{and_from}
use Rattle.vpc_laws.specs.Types.{Description, End}
use Rattle.vpc_model.specs.declared.places.End.TheVariants as ends
use Rattle.vpc_model.specs.Accepted.{IsAccepted}
use Rattle.vpc_model.specs.Far.{is_far_end}
use Rattle.vpc_model.specs.Lookup.{far_at}
use Rattle.vpc_model.specs.Sound.{is_end, is_far}
use Rattle.block_report.specs.Reports.{report_text}
use Rattle.report_reader.specs.ReadsBack.{IsNamed, IsPrintable, Listed, length_limit, listed_report}
use Rattle.report_reader.specs.Reports.{report_of_text}
use Rattle.report_reader.proofs.FarEnds.{found_far, found_far_end}
use Rattle.report_reader.proofs.Lengths.{printed_reports_fit}
use Rattle.report_reader.proofs.ReadReports.{printed_reports_read_back}

-- an end that is named is described
pub named_is_described : (d : Description) (end : End) → IsNamed d end → is_end d end ≡ true
named_is_described d (ends.Interface i) named = named.described
named_is_described d ends.Internet named = refl
named_is_described d (ends.Far k) named =
    let far = far_at d k in
    let found = found_far_end d far.id k named.named in
    and_from (is_far d k) (is_far_end d far) (found_far d far.id k found.0).0 found.1

-- a text that was printed reads as its report
pub reads_if_printed : (d : Description) (r : Listed) (text : List ℕ) → IsAccepted d → IsPrintable d r → text ≡ report_text d r.start r.goal r.sides r.rows → report_of_text d text ≡ Ok (listed_report r)
reads_if_printed d r text accepted printable is = subst (λ (t : List ℕ). report_of_text d t ≡ Ok (listed_report r)) (sym is) (printed_reports_read_back d r accepted printable)

-- and is short
pub short_if_printed : (d : Description) (r : Listed) (text : List ℕ) → IsAccepted d → IsPrintable d r → text ≡ report_text d r.start r.goal r.sides r.rows → length text ≤ length_limit
short_if_printed d r text accepted printable is = subst (λ (t : List ℕ). length t ≤ length_limit) (sym is) (printed_reports_fit d r accepted printable)
