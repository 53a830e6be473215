-- What a search in a row finds.
use Rattle.std.proofs.Common.{◌+◌, ◌-◌, ◌<◌, ◌≡◌, ◌∙◌, List, Option, Some, ap, arith, length, subst, sym, take, ℕ}
use Rattle.std.specs.Prelude.{slice_get, slice_index_or}
use Rattle.std.proofs.lemmas.List.Elements.{All-more}
use Rattle.std.proofs.lemmas.Option.{slice_get-get_or}
use Rattle.box_walk.specs.Asking.{Asking}
use Rattle.header_boxes.specs.Rows.{HasWord, IsFirst, IsFirstThrough, NoneThrough}
use Rattle.report_reader.specs.Reports.{rows_of}
use Rattle.report_reader.specs.declared.report.Report.{Report}
use Rattle.vpc_laws.specs.Types.{Description, Header, Row, StopText, Verdict}
use Rattle.vpc_model.specs.Appliances.{appliances_of}
use Rattle.vpc_model.specs.Report.{ending_of}
use Rattle.vpc_model.specs.Verdict.{alone, verdict_of}
use Rattle.report_check.proofs.Told.{agreed-none, agreed-some}
use Rattle.report_check.specs.Agreement.{agreement_of}
use Rattle.report_check.specs.Checked.{AreTrue, IsFirstUntrue, IsLeastUntrue, meaning_in}

pub first_untrue_is : (d : Description) (r : Report) (row : Row StopText) (h : Header) (v : Verdict) → v ≡ verdict_of d (appliances_of d) r.start r.goal h
    → IsFirstThrough (agreement_of d (alone r.start) r.goal row.word) row.part h → IsFirstUntrue d r row h v
unfolding agreement_of
first_untrue_is d r row h v verdict found = record {
  inside = found.inside;
  verdict = verdict;
  other = λ is. agreed-none row.word (meaning_in d r h) found.through (ap (ending_of d) (sym verdict) ∙ is);
  first = λ k held before. agreed-some row.word (meaning_in d r k) (found.first k held before);
}

pub has_word_if_none : (d : Description) (r : Report) (row : Row StopText) → NoneThrough (agreement_of d (alone r.start) r.goal row.word) row.part → HasWord (meaning_in d r) row
unfolding agreement_of
has_word_if_none d r row none h held = agreed-some row.word (meaning_in d r h) (none h held)

-- the same search, said of the network and the ends of the report
pub first_in : (n d : Description) (a b : Asking) (row : Row StopText) (o : Option Header) → n ≡ d → a ≡ b
    → IsFirst (agreement_of n a.homes a.goal row.word) row.part o → IsFirst (agreement_of d b.homes b.goal row.word) row.part o
first_in n d a b row o network asking found =
    subst (λ (x : Asking). IsFirst (agreement_of d x.homes x.goal row.word) row.part o) asking
    (subst (λ (x : Description). IsFirst (agreement_of x a.homes a.goal row.word) row.part o) network found)

-- one row more is true
pub true_more : (d : Description) (r : Report) (rows : List (Row StopText)) (i : ℕ) (row : Row StopText) → i < length rows → row ≡ slice_index_or rows i row
    → AreTrue d r (take i rows) → NoneThrough (agreement_of d (alone r.start) r.goal row.word) row.part → AreTrue d r (take (i + 1) rows)
true_more d r rows i row below is before none =
    All-more (HasWord (meaning_in d r)) rows i row below before (subst (HasWord (meaning_in d r)) is (has_word_if_none d r row none))

-- the first of these rows that isn't true
pub least_untrue_is : (d : Description) (r : Report) (rows : List (Row StopText)) (i number : ℕ) (row : Row StopText) (h : Header) (v : Verdict)
    → rows ≡ rows_of r → number ≡ i + 1 → i < length rows → row ≡ slice_index_or rows i row → AreTrue d r (take i rows)
    → v ≡ verdict_of d (appliances_of d) r.start r.goal h → IsFirstThrough (agreement_of d (alone r.start) r.goal row.word) row.part h
    → IsLeastUntrue d r number h v
least_untrue_is d r rows i number row h v all count below is before verdict found =
    let index : number - 1 ≡ i = omega arith in
    record {
      row = row;
      numbered = omega arith;
      stands = subst (λ (k : ℕ). slice_get (rows_of r) k ≡ Some row) (sym index)
          (subst (λ (xs : List (Row StopText)). slice_get xs i ≡ Some row) all (slice_get-get_or rows i row below ∙ ap Some (sym is)));
      untrue = first_untrue_is d r row h v verdict found;
      before = subst (λ (k : ℕ). AreTrue d r (take k (rows_of r))) (sym index) (subst (λ (xs : List (Row StopText)). AreTrue d r (take i xs)) all before);
    }
