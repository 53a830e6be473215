-- What is answered to the lines of a text.
use Rattle.std.proofs.Common.{◌≡◌, ◌≤◌, ◌∷◌, [], Bool, List, None, Option, Some, ap, arith, codes, drop, false, if◌then◌else◌, length, refl, subst, true, ℕ}
use Rattle.std.specs.Prelude.{bytes_eq, option_and_then, slice_get}
use Rattle.std.specs.Result.{result_ok}
use Rattle.std.proofs.lemmas.Bool.{and_parts}
use Rattle.change_report.proofs.AnswerLemmas.{starts_as, targets_as}
use Rattle.changed_ends.specs.Asked.{Comparison, StartAt, TargetsAre, comparison}
use Rattle.command_job.specs.declared.status.Status.{Status}
use Rattle.listing_check.specs.Answered.{IsListingChecked}
use Rattle.query_words.specs.ChangeQuery.{change_query_of}
use Rattle.query_words.specs.Events.{words_of}
use Rattle.query_words.specs.declared.changes.ChangeQuery.{ChangeQuery}
use Rattle.query_words.specs.declared.changes.ChangedEnd.{ChangedEnd}
use Rattle.report_reader.specs.Boxes.{word_at}
use Rattle.report_reader.specs.Reports.{is_ended, pieces_of}
use Rattle.vpc_laws.specs.Types.{Description}
use Rattle.diff_check.specs.Starts.{IsAskedChecked, IsQueryChecked}
use Rattle.diff_check.specs.Starts as starts
use Rattle.diff_check.specs.Diffs.{IsCheckedFor, IsDiffChecked, all_asked, diff_question}
use Rattle.diff_check.specs.Diffs as diffs
use Rattle.listing_check.specs.Lines.{all_lines, are_question, begins_with, query_words, question_words}

-- ---- the question

-- by the words of the second line
abbrev question_of : Description → Description → List (List ℕ) → Option ChangeQuery
question_of before after words = result_ok (change_query_of before after (codes "diff" ∷ [] ∷ words))

module _ (before after : Description) (lines : List (List ℕ)) where
  pub diff_question-some : (words : List (List ℕ)) → question_words lines ≡ Some words
      → diff_question before after lines ≡ result_ok (change_query_of before after (codes "diff" ∷ [] ∷ words))
  diff_question-some words is = ap (λ (o : Option (List (List ℕ))). option_and_then (question_of before after) o) is

  pub diff_question-none : question_words lines ≡ None → diff_question before after lines ≡ None
  diff_question-none is = ap (λ (o : Option (List (List ℕ))). option_and_then (question_of before after) o) is

-- a line that begins with a word has one
taken : (b : Bool) (xs ys : List (List ℕ)) → (if b then Some xs else None) ≡ Some ys → (b ≡ true) × (xs ≡ ys)
taken true xs ys is = (refl, cc)
taken false xs ys is = absurd (cc)

first_there : (words : List (List ℕ)) → bytes_eq (word_at words 0) (codes "query") ≡ true → 1 ≤ length words
first_there [] is = let wrong : false ≡ true = is in absurd (cc)
first_there (w ∷ words) is = omega arith

words_there : (line : Option (List ℕ)) (words : List (List ℕ)) → option_and_then query_words line ≡ Some words → 1 ≤ length words
words_there None words is = absurd (cc)
words_there (Some line) words is =
    let t = taken (are_question (words_of line)) (words_of line) words is in
    let parts = and_parts _ _ t.0 in
    subst (λ (l : List (List ℕ)). 1 ≤ length l) t.1 (first_there (words_of line) parts.0)

pub question_has_words : (lines words : List (List ℕ)) → question_words lines ≡ Some words → 1 ≤ length words
question_has_words lines words is = words_there (slice_get lines 1) words is

-- ---- answers

-- with the destinations and the starts as they are handed on, where each network is that of its look-ups
pub checked_for : (c : Comparison) (before after : Description) (query : ChangeQuery) (targets given_targets : List (ℕ × ℕ)) (starts given_starts : List ChangedEnd) (lines later : List (List ℕ)) (ended : Bool) (status : Status) (text : List ℕ)
    → before ≡ c.before → after ≡ c.after → query ≡ c.query → given_targets ≡ targets → TargetsAre before after query.pairs.dst query.goal targets → given_starts ≡ starts
    → StartAt before after query.pairs.src query.start query.goal starts → later ≡ drop 2 lines → IsListingChecked (all_asked c given_targets given_starts) ended later status text → IsCheckedFor c lines ended status text
checked_for c before after query targets given_targets starts given_starts lines later ended status text first second third targets_is targets_are starts_is starts_are after_two found = record {
  targets = given_targets;
  targets_are = targets_as c before after query first second third targets given_targets targets_is targets_are;
  starts = given_starts;
  starts_are = starts_as c before after query first second third starts given_starts starts_is starts_are;
  checked = subst (λ (l : List (List ℕ)). IsListingChecked (all_asked c given_targets given_starts) ended l status text) after_two found;
}

-- of the lines of these bytes
pub lines_as : (before after : Description) (lines : List (List ℕ)) (ended : Bool) (bytes : List ℕ) (status : Status) (text : List ℕ) → lines ≡ all_lines bytes → ended ≡ is_ended (pieces_of bytes)
    → IsAskedChecked before after lines ended status text → IsAskedChecked before after (all_lines bytes) (is_ended (pieces_of bytes)) status text
lines_as before after lines ended bytes status text are is answer =
    subst (λ (e : Bool). IsAskedChecked before after (all_lines bytes) e status text) is (subst (λ (l : List (List ℕ)). IsAskedChecked before after l ended status text) are answer)

module _ (before after : Description) (bytes : List ℕ) (status : Status) (text : List ℕ) (tagged : begins_with (codes "vpc-diff 1") (all_lines bytes) ≡ true) where
  query_answers : (query : ChangeQuery) → diff_question before after (all_lines bytes) ≡ Some query
      → IsQueryChecked (comparison before after query) (all_lines bytes) (is_ended (pieces_of bytes)) status text → IsDiffChecked before after bytes status text
  query_answers query asked (starts.too_many many status_is text_is) = diffs.too_many tagged query asked many status_is text_is
  query_answers query asked (starts.checked few found) = diffs.checked tagged query asked few found

  pub diff_answers : IsAskedChecked before after (all_lines bytes) (is_ended (pieces_of bytes)) status text → IsDiffChecked before after bytes status text
  diff_answers (starts.no_question none status_is text_is) = diffs.no_question tagged none status_is text_is
  diff_answers (starts.asked query asked answer) = query_answers query asked answer
