-- Questions for all that gets through, as they are answered: by their starts, each with what its rows are read by.
use Rattle.std.specs.Prelude.{◌≡◌, ◌∷◌, [], Bool, Err, List, Ok, Option, Some, decimal, option_map, ℕ}
use Rattle.box_walk.specs.Journeys.{reached_of}
use Rattle.command_job.specs.declared.status.Status.{Status}
use Rattle.command_job.specs.declared.status.Status.TheVariants as ends
use Rattle.end_reach.specs.Answered.{IsTooMany}
use Rattle.end_reach.specs.Asked.{boxes_at}
use Rattle.journey_changes.specs.Fates.{Fate}
use Rattle.journey_changes.specs.Sent.{fate, sent}
use Rattle.journey_changes.specs.Telling.{CanBeTold}
use Rattle.listing_check.specs.Asked.{Asked}
use Rattle.listing_reader.specs.declared.origins.Origin.{Origin}
use Rattle.query_words.specs.ReachQuery.{AreGivenEnds, AreReachPairs}
use Rattle.query_words.specs.declared.reaches.ReachQuery.{ReachQuery}
use Rattle.report_check.specs.Certified.{report_refusal_line}
use Rattle.vpc_laws.specs.Types.{Description, End, FarNo}
use Rattle.vpc_model.specs.Appliances.{appliances_of}
use Rattle.vpc_model.specs.Told.{end_id}
use Rattle.vpc_model.specs.Verdict.{homes_among}
use Rattle.reach_check.specs.Reaches.{IsCheckedFor, fate_text, toward_of}

-- ---- a question

-- its ends are described, and its sides are not empty
pub record CanBeAsked (d : Description) (query : ReachQuery) : Type 0 where
  pub ends_are : AreGivenEnds d query
  pub pairs_are : AreReachPairs query.pairs

-- ---- starts

-- what the rows of a start are read by
abbrev pub origin_of : Description → ReachQuery → List (ℕ × ℕ) → End → Origin
origin_of d query targets start = record { id = end_id d start; boxes = boxes_at d query targets start }

-- what is asked of a start with this id and these boxes, where replies may arrive at these links
abbrev pub asked_at : Description → List FarNo → Option End → Origin → End → Asked
asked_at d links goal origin start = record {
  id = origin.id;
  boxes = origin.boxes;
  told = λ h. option_map (end_id d) (reached_of d (appliances_of d) (homes_among links start) goal h);
  outcome = λ h. fate_text d origin.id (fate (sent d (Some start) links (toward_of goal)) h);
}

-- of each start
abbrev pub asked_in : Description → List FarNo → Option End → List Origin → List End → List Asked
asked_in d links goal [] starts = []
asked_in d links goal (origin ∷ origins) [] = []
asked_in d links goal (origin ∷ origins) (start ∷ starts) = asked_at d links goal origin start ∷ asked_in d links goal origins starts

-- ---- texts

-- what keeps a request from an end has a text
abbrev pub CanBeShown : Description → Fate → Type 0
CanBeShown d (Ok end) = Unit {0}
CanBeShown d (Err barrier) = CanBeTold d barrier

-- ---- answers

-- that the question is about too many interfaces, or what is found of the lines
pub data IsCheckedUnlessTooMany (d : Description) (query : ReachQuery) (lines : List (List ℕ)) (ended : Bool) (status : Status) (text : List ℕ) : Type 0 where
  too_many : IsTooMany d query → status ≡ ends.Query → text ≡ report_refusal_line (decimal 2) → IsCheckedUnlessTooMany d query lines ended status text
  checked : (IsTooMany d query → ⊥) → IsCheckedFor d query lines ended status text → IsCheckedUnlessTooMany d query lines ended status text
