-- What `check` answers to what `reach` prints.
use Rattle.std.specs.Prelude.{◌++◌, ◌≡◌, ◌↔◌, ◌∷◌, [], Bool, Err, List, None, Ok, Option, Some, codes, decimal, drop, map, option_and_then, option_map, ℕ}
use Rattle.std.specs.Result.{result_ok}
use Rattle.block_report.specs.Words.{word}
use Rattle.change_report.specs.Texts.{barrier_text}
use Rattle.command_job.specs.declared.status.Status.{Status}
use Rattle.command_job.specs.declared.status.Status.TheVariants as ends
use Rattle.end_reach.specs.Terms.{AreStarts, AreTargets, IsTooMany, boxes_at, links_of, reached_in}
use Rattle.journey_changes.specs.Sent.{reached}
use Rattle.journey_changes.specs.Terms.{Fate, Sent, fate, sent}
use Rattle.journey_changes.specs.declared.fates.Toward.{Toward}
use Rattle.journey_changes.specs.declared.fates.Toward.TheVariants as towards
use Rattle.listing_check.specs.Terms.{Asked, IsListingChecked, IsTrueListing, listed_of, origins_of}
use Rattle.listing_reader.specs.Listings.{lists_in}
use Rattle.query_words.specs.ReachQuery.{reach_query_of}
use Rattle.query_words.specs.declared.reaches.ReachQuery.{ReachQuery}
use Rattle.report_check.specs.Certified.{report_refusal_line}
use Rattle.report_reader.specs.Reports.{is_ended, pieces_of}
use Rattle.vpc_laws.specs.Types.{Description, End, Header, Row}
use Rattle.vpc_model.specs.Told.{end_id}
use Rattle.listing_check.specs.Lines.{all_lines, question_words}

-- ---- what is asked

-- toward the goal, or any end
abbrev pub toward_of : Option End → Toward
toward_of None = towards.Any
toward_of (Some goal) = towards.Goal goal

-- the end that a request reaches, or what stops it
abbrev pub fate_text : Description → List ℕ → Fate → List ℕ
fate_text d id (Ok end) = codes "reached" ++ word (end_id d end)
fate_text d id (Err barrier) = barrier_text d id barrier

-- the id of the end that a request reaches
abbrev pub end_told : Sent → Header → Option (List ℕ)
end_told s h = option_map (end_id s.network) (reached s h)

-- of a request that reaches an end the end is told
abbrev pub asked_from : Description → ReachQuery → List (ℕ × ℕ) → End → Asked
asked_from d query targets start = record {
  id = end_id d start;
  boxes = boxes_at d query targets start;
  told = λ h. option_map (end_id d) (reached_in d query start h);
  outcome = λ h. fate_text d (end_id d start) (fate (sent d (Some start) (links_of d query) (toward_of query.goal)) h);
}

-- of all starts
abbrev pub all_asked : Description → ReachQuery → List (ℕ × ℕ) → List End → List Asked
all_asked d query targets starts = map (asked_from d query targets) starts

-- the question of the second line
abbrev pub reach_question : Description → List (List ℕ) → Option ReachQuery
reach_question d lines = option_and_then (λ words. result_ok (reach_query_of d (codes "reach" ∷ [] ∷ drop 1 words))) (question_words lines)

-- ---- what is answered

-- with the destinations and the starts that the question is about
pub record IsCheckedFor (d : Description) (query : ReachQuery) (lines : List (List ℕ)) (ended : Bool) (status : Status) (text : List ℕ) : Type 0 where
  pub targets : List (ℕ × ℕ)
  pub targets_are : AreTargets d query.pairs.dst query.goal targets
  pub starts : List End
  pub starts_are : AreStarts d query.pairs.src query.start query.goal starts
  pub checked : IsListingChecked (all_asked d query targets starts) ended (drop 2 lines) status text

-- the second line is refused where it is no question, or one about too many interfaces
pub data IsReachChecked (d : Description) (bytes : List ℕ) (status : Status) (text : List ℕ) : Type 0 where
  no_question : reach_question d (all_lines bytes) ≡ None → status ≡ ends.Query → text ≡ report_refusal_line (decimal 2) → IsReachChecked d bytes status text
  too_many : (query : ReachQuery) → reach_question d (all_lines bytes) ≡ Some query → IsTooMany d query → status ≡ ends.Query → text ≡ report_refusal_line (decimal 2)
      → IsReachChecked d bytes status text
  checked : (query : ReachQuery) → reach_question d (all_lines bytes) ≡ Some query → (IsTooMany d query → ⊥)
      → IsCheckedFor d query (all_lines bytes) (is_ended (pieces_of bytes)) status text → IsReachChecked d bytes status text

-- ---- the truth

-- the bytes are a listing, and what it says is true and all that is to be told
pub record IsTrueReach (d : Description) (bytes : List ℕ) : Type 0 where
  pub query : ReachQuery
  pub question : reach_question d (all_lines bytes) ≡ Some query
  pub few : IsTooMany d query → ⊥
  pub targets : List (ℕ × ℕ)
  pub targets_are : AreTargets d query.pairs.dst query.goal targets
  pub starts : List End
  pub starts_are : AreStarts d query.pairs.src query.start query.goal starts
  pub lists : List (List (Row (List ℕ)))
  pub reads : lists_in (origins_of (all_asked d query targets starts)) (is_ended (pieces_of bytes)) (drop 2 (all_lines bytes)) ≡ Ok lists
  pub true_listing : IsTrueListing (listed_of (all_asked d query targets starts) lists)

-- yes exactly where it is
abbrev pub IsReachListingDecided : Description → List ℕ → Status → Type 0
IsReachListingDecided d bytes status = (status ≡ ends.Yes) ↔ IsTrueReach d bytes
