-- What is answered to the lines of a text.
use Rattle.std.proofs.Common.{◌≡◌, ◌∷◌, [], Bool, List, None, Option, Some, ap, decimal, subst, ℕ}
use Rattle.std.specs.Prelude.{codes, drop, option_and_then}
use Rattle.std.specs.Result.{result_ok}
use Rattle.command_job.specs.declared.status.Status.{Status}
use Rattle.command_job.specs.declared.status.Status.TheVariants as ends
use Rattle.query_words.specs.ReachQuery.{reach_query_of}
use Rattle.query_words.specs.declared.reaches.ReachQuery.{ReachQuery}
use Rattle.report_check.specs.Certified.{report_refusal_line}
use Rattle.report_reader.specs.Reports.{is_ended, pieces_of}
use Rattle.vpc_laws.specs.Types.{Description}
use Rattle.listing_check.specs.Lines.{all_lines, question_words}
use Rattle.reach_check.specs.Questions.{IsCheckedUnlessTooMany}
use Rattle.reach_check.specs.Questions as questions
use Rattle.reach_check.specs.Reaches.{IsReachChecked, reach_question}
use Rattle.reach_check.specs.Reaches as reaches

-- ---- the question

-- by the words of the second line
abbrev question_of : Description → List (List ℕ) → Option ReachQuery
question_of d words = result_ok (reach_query_of d (codes "reach" ∷ [] ∷ drop 1 words))

pub reach_question-some : (d : Description) (lines words : List (List ℕ)) → question_words lines ≡ Some words
    → reach_question d lines ≡ result_ok (reach_query_of d (codes "reach" ∷ [] ∷ drop 1 words))
reach_question-some d lines words is = ap (λ (o : Option (List (List ℕ))). option_and_then (question_of d) o) is

pub reach_question-none : (d : Description) (lines : List (List ℕ)) → question_words lines ≡ None → reach_question d lines ≡ None
reach_question-none d lines is = ap (λ (o : Option (List (List ℕ))). option_and_then (question_of d) o) is

-- ---- answers

-- of the lines of these bytes
told_of : (d : Description) (query : ReachQuery) (bytes : List ℕ) (status : Status) (text : List ℕ) → reach_question d (all_lines bytes) ≡ Some query
    → IsCheckedUnlessTooMany d query (all_lines bytes) (is_ended (pieces_of bytes)) status text → IsReachChecked d bytes status text
told_of d query bytes status text asked (questions.too_many many status_is text_is) = reaches.too_many query asked many status_is text_is
told_of d query bytes status text asked (questions.checked few found) = reaches.checked query asked few found

pub checked_of : (d : Description) (query : ReachQuery) (lines : List (List ℕ)) (ended : Bool) (bytes : List ℕ) (status : Status) (text : List ℕ)
    → lines ≡ all_lines bytes → ended ≡ is_ended (pieces_of bytes) → reach_question d lines ≡ Some query
    → IsCheckedUnlessTooMany d query lines ended status text → IsReachChecked d bytes status text
checked_of d query lines ended bytes status text are is asked told =
    told_of d query bytes status text (subst (λ (l : List (List ℕ)). reach_question d l ≡ Some query) are asked)
    (subst (λ (e : Bool). IsCheckedUnlessTooMany d query (all_lines bytes) e status text) is
    (subst (λ (l : List (List ℕ)). IsCheckedUnlessTooMany d query l ended status text) are told))

pub refused_of : (d : Description) (lines : List (List ℕ)) (bytes : List ℕ) (status : Status) (text : List ℕ) → lines ≡ all_lines bytes → reach_question d lines ≡ None
    → status ≡ ends.Query → text ≡ report_refusal_line (decimal 2) → IsReachChecked d bytes status text
refused_of d lines bytes status text are none status_is text_is =
    reaches.no_question (subst (λ (l : List (List ℕ)). reach_question d l ≡ None) are none) status_is text_is
