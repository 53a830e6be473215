-- What `check` answers to what `diff` prints.
use Rattle.std.specs.Prelude.{◌≡◌, ◌↔◌, ◌∷◌, [], Bool, List, None, Ok, Option, Some, codes, decimal, drop, false, map, option_and_then, option_map, true, ℕ}
use Rattle.std.specs.Result.{result_ok}
use Rattle.change_report.specs.Answered.{IsTooMany}
use Rattle.changed_ends.specs.Asked.{AreStarts, AreTargets, Comparison, boxes_at, comparison}
use Rattle.change_report.specs.Texts.{change_text, start_id}
use Rattle.change_report.specs.Told.{change_in}
use Rattle.command_job.specs.declared.status.Status.{Status}
use Rattle.command_job.specs.declared.status.Status.TheVariants as ends
use Rattle.header_boxes.specs.declared.rows.Row.{Row}
use Rattle.listing_check.specs.Answered.{IsListingChecked, origins_of}
use Rattle.listing_check.specs.Asked.{Asked, IsTrueListing, listed_of}
use Rattle.listing_reader.specs.Listings.{lists_in}
use Rattle.query_words.specs.ChangeQuery.{change_query_of}
use Rattle.query_words.specs.declared.changes.ChangeQuery.{ChangeQuery}
use Rattle.query_words.specs.declared.changes.ChangedEnd.{ChangedEnd}
use Rattle.report_check.specs.Certified.{report_refusal_line}
use Rattle.report_reader.specs.Reports.{is_ended, pieces_of}
use Rattle.vpc_laws.specs.Types.{Description, Header}
use Rattle.listing_check.specs.Lines.{all_lines, begins_with, question_words}

-- ---- what is asked

-- what changes for a request, as it is printed
abbrev pub told_in : Comparison → ChangedEnd → Header → Option (List ℕ)
told_in c start h = option_map (change_text c.before c.after (start_id c start)) (change_in c start h)

-- what changes, or that nothing does
abbrev pub told_or_same : Option (List ℕ) → List ℕ
told_or_same None = codes "same"
told_or_same (Some told) = told

abbrev pub asked_from : Comparison → List (ℕ × ℕ) → ChangedEnd → Asked
asked_from c targets start = record {
  id = start_id c start;
  boxes = boxes_at c targets start;
  told = told_in c start;
  outcome = λ h. told_or_same (told_in c start h);
}

-- of all starts
abbrev pub all_asked : Comparison → List (ℕ × ℕ) → List ChangedEnd → List Asked
all_asked c targets starts = map (asked_from c targets) starts

-- the question of the second line, whose first word stands where the second file of `diff` does
abbrev pub diff_question : Description → Description → List (List ℕ) → Option ChangeQuery
diff_question before after lines = option_and_then (λ words. result_ok (change_query_of before after (codes "diff" ∷ [] ∷ words))) (question_words lines)

-- ---- what is answered

-- with the destinations and the starts that the question is about
pub record IsCheckedFor (c : Comparison) (lines : List (List ℕ)) (ended : Bool) (status : Status) (text : List ℕ) : Type 0 where
  pub targets : List (ℕ × ℕ)
  pub targets_are : AreTargets c targets
  pub starts : List ChangedEnd
  pub starts_are : AreStarts c starts
  pub checked : IsListingChecked (all_asked c targets starts) ended (drop 2 lines) status text

-- the first line, or the second where it is no question or one about too many interfaces, is refused; or what follows them is checked
pub data IsDiffChecked (before after : Description) (bytes : List ℕ) (status : Status) (text : List ℕ) : Type 0 where
  no_diff : begins_with (codes "vpc-diff 1") (all_lines bytes) ≡ false → status ≡ ends.Query → text ≡ report_refusal_line (decimal 1)
      → IsDiffChecked before after bytes status text
  no_question : begins_with (codes "vpc-diff 1") (all_lines bytes) ≡ true → diff_question before after (all_lines bytes) ≡ None → status ≡ ends.Query → text ≡ report_refusal_line (decimal 2)
      → IsDiffChecked before after bytes status text
  too_many : begins_with (codes "vpc-diff 1") (all_lines bytes) ≡ true → (query : ChangeQuery) → diff_question before after (all_lines bytes) ≡ Some query → IsTooMany (comparison before after query)
      → status ≡ ends.Query → text ≡ report_refusal_line (decimal 2) → IsDiffChecked before after bytes status text
  checked : begins_with (codes "vpc-diff 1") (all_lines bytes) ≡ true → (query : ChangeQuery) → diff_question before after (all_lines bytes) ≡ Some query → (IsTooMany (comparison before after query) → ⊥)
      → IsCheckedFor (comparison before after query) (all_lines bytes) (is_ended (pieces_of bytes)) status text → IsDiffChecked before after bytes status text

-- ---- the truth

-- the bytes are a listing, and what it says is true and all that changes
pub record IsTrueDiff (before after : Description) (bytes : List ℕ) : Type 0 where
  pub first : begins_with (codes "vpc-diff 1") (all_lines bytes) ≡ true
  pub query : ChangeQuery
  pub question : diff_question before after (all_lines bytes) ≡ Some query
  pub few : IsTooMany (comparison before after query) → ⊥
  pub targets : List (ℕ × ℕ)
  pub targets_are : AreTargets (comparison before after query) targets
  pub starts : List ChangedEnd
  pub starts_are : AreStarts (comparison before after query) starts
  pub lists : List (List (Row (List ℕ)))
  pub reads : lists_in (origins_of (all_asked (comparison before after query) targets starts)) (is_ended (pieces_of bytes)) (drop 2 (all_lines bytes)) ≡ Ok lists
  pub true_listing : IsTrueListing (listed_of (all_asked (comparison before after query) targets starts) lists)

-- yes exactly where it is
abbrev pub IsDiffListingDecided : Description → Description → List ℕ → Status → Type 0
IsDiffListingDecided before after bytes status = (status ≡ ends.Yes) ↔ IsTrueDiff before after bytes
