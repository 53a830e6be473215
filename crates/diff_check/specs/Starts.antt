-- Questions for what changes, as they are answered: by their starts.
use Rattle.std.specs.Prelude.{◌≡◌, Bool, List, None, Some, decimal, ℕ}
use Rattle.change_report.specs.Answered.{IsTooMany}
use Rattle.changed_ends.specs.Asked.{Comparison, HasEnds, boxes_at, comparison}
use Rattle.change_report.specs.Texts.{start_id}
use Rattle.command_job.specs.declared.status.Status.{Status}
use Rattle.command_job.specs.declared.status.Status.TheVariants as ends
use Rattle.listing_reader.specs.declared.origins.Origin.{Origin}
use Rattle.query_words.specs.ReachQuery.{AreReachPairs}
use Rattle.query_words.specs.declared.changes.ChangeQuery.{ChangeQuery}
use Rattle.query_words.specs.declared.changes.ChangedEnd.{ChangedEnd}
use Rattle.report_check.specs.Certified.{report_refusal_line}
use Rattle.vpc_laws.specs.Types.{Description}
use Rattle.diff_check.specs.Diffs.{IsCheckedFor, diff_question}

-- the ends of the question are described, and its sides are not empty
pub record CanBeCompared (c : Comparison) : Type 0 where
  pub ends_are : HasEnds c
  pub pairs_are : AreReachPairs c.query.pairs

-- what the rows of a start are read by
abbrev pub origin_from : Comparison → List (ℕ × ℕ) → ChangedEnd → Origin
origin_from c targets start = record { id = start_id c start; boxes = boxes_at c targets start }

-- that the question is about too many interfaces, or what is found of the lines
pub data IsQueryChecked (c : Comparison) (lines : List (List ℕ)) (ended : Bool) (status : Status) (text : List ℕ) : Type 0 where
  too_many : IsTooMany c → status ≡ ends.Query → text ≡ report_refusal_line (decimal 2) → IsQueryChecked c lines ended status text
  checked : (IsTooMany c → ⊥) → IsCheckedFor c lines ended status text → IsQueryChecked c lines ended status text

-- that the second line is no question, or what is answered to it
pub data IsAskedChecked (before after : Description) (lines : List (List ℕ)) (ended : Bool) (status : Status) (text : List ℕ) : Type 0 where
  no_question : diff_question before after lines ≡ None → status ≡ ends.Query → text ≡ report_refusal_line (decimal 2) → IsAskedChecked before after lines ended status text
  asked : (query : ChangeQuery) → diff_question before after lines ≡ Some query → IsQueryChecked (comparison before after query) lines ended status text
      → IsAskedChecked before after lines ended status text
