-- What `diff` prints of all requests is a yes of `check`.
use Rattle.std.specs.Prelude.{◌≡◌, ◌≤◌, ◌⊎◌, List, length, ℕ}
use Rattle.diff_check.specs.Diffs.{IsDiffListingDecided, IsTrueDiff}
use Rattle.change_report.specs.Answered.{IsDiffAnswered}
use Rattle.command_job.specs.declared.status.Status.{Status}
use Rattle.command_job.specs.declared.status.Status.TheVariants as ends
use Rattle.report_reader.specs.ReadsBack.{length_limit}
use Rattle.vpc_laws.specs.Types.{Description}
use Rattle.listing_laws.specs.Networks.{CanBeListed}

-- all that `diff` answers: a text whose status is yes or no
pub record IsDiffText (before after : Description) (words : List (List ℕ)) (text : List ℕ) : Type 0 where
  pub status : Status
  pub answered : IsDiffAnswered before after words status text
  pub whole : (status ≡ ends.Yes) ⊎ (status ≡ ends.No)

-- it is true
abbrev pub DiffTextsAreTrue : Type 0
DiffTextsAreTrue =
    (before after : Description) (words : List (List ℕ)) (text : List ℕ) → CanBeListed before → CanBeListed after
    → IsDiffText before after words text → IsTrueDiff before after text

-- it is short enough to be read as a file
abbrev pub DiffTextsFit : Type 0
DiffTextsFit =
    (before after : Description) (words : List (List ℕ)) (text : List ℕ) → CanBeListed before → CanBeListed after
    → IsDiffText before after words text → length text ≤ length_limit

-- and `check` answers yes
abbrev pub DiffTextsPass : Type 0
DiffTextsPass =
    (before after : Description) (words : List (List ℕ)) (text : List ℕ) (status : Status) → CanBeListed before → CanBeListed after
    → IsDiffText before after words text → IsDiffListingDecided before after text status → status ≡ ends.Yes
