-- What `reach` prints of all requests is a yes of `check`.
use Rattle.std.specs.Prelude.{◌≡◌, ◌≤◌, ◌⊎◌, List, length, ℕ}
use Rattle.reach_check.specs.Reaches.{IsTrueReach}
use Rattle.reach_check.specs.Texts.{IsTextDecided}
use Rattle.command_job.specs.declared.status.Status.{Status}
use Rattle.command_job.specs.declared.status.Status.TheVariants as ends
use Rattle.end_reach.specs.Answered.{IsReachAnswered}
use Rattle.report_reader.specs.ReadsBack.{length_limit}
use Rattle.vpc_laws.specs.Types.{Description}
use Rattle.listing_laws.specs.Networks.{CanBeListed}

-- all that `reach` answers: a text whose status is yes or no
pub record IsReachText (d : Description) (words : List (List ℕ)) (text : List ℕ) : Type 0 where
  pub status : Status
  pub answered : IsReachAnswered d words status text
  pub whole : (status ≡ ends.Yes) ⊎ (status ≡ ends.No)

-- it is true
abbrev pub ReachTextsAreTrue : Type 0
ReachTextsAreTrue =
    (d : Description) (words : List (List ℕ)) (text : List ℕ) → CanBeListed d → IsReachText d words text → IsTrueReach d text

-- it is short enough to be read as a file
abbrev pub ReachTextsFit : Type 0
ReachTextsFit =
    (d : Description) (words : List (List ℕ)) (text : List ℕ) → CanBeListed d → IsReachText d words text → length text ≤ length_limit

-- and `check` answers yes
abbrev pub ReachTextsPass : Type 0
ReachTextsPass =
    (d : Description) (words : List (List ℕ)) (text : List ℕ) (status : Status) → CanBeListed d → IsReachText d words text
    → IsTextDecided d text status → status ≡ ends.Yes
