-- What is answered by the rows of starts, and what decides its status.
use Rattle.std.specs.Prelude.{◌==◌, ◌≡◌, ◌<◌, ◌⊎◌, if◌then◌else◌, List, ℕ}
use Rattle.command_job.specs.declared.status.Status.{Status}
use Rattle.command_job.specs.declared.status.Status.TheVariants as ends
use Rattle.vpc_base.specs.declared.headers.Header.{Header}
use Rattle.listing_text.specs.Told.{AreToldAll, AreToldInPart, StartRows, Wanted, row_count}

-- from how many hosts it is asked at most where no end is given
abbrev pub host_limit : ℕ
host_limit = 500

-- the status where there are rows, or the other
abbrev pub status_by : Status → Status → ℕ → Status
status_by rows nothing count = if count == 0 then nothing else rows

-- rows are told, or there is nothing to tell, or there is more than is asked for, each with its status and its text
pub data IsTold {Start Word : Type 0} (rows nothing : Status) (whole : List (StartRows Start Word) → List ℕ) (part : List (StartRows Start Word) → StartRows Start Word → Header → List ℕ) (w : Wanted Start Word) (starts : List Start) (status : Status) (text : List ℕ) : Type 0 where
  some : (told : List (StartRows Start Word)) → AreToldAll w starts told → 0 < row_count told → status ≡ rows → text ≡ whole told
      → IsTold rows nothing whole part w starts status text
  none : (told : List (StartRows Start Word)) → AreToldAll w starts told → row_count told ≡ 0 → status ≡ nothing → text ≡ whole told
      → IsTold rows nothing whole part w starts status text
  more : (told : List (StartRows Start Word)) (last : StartRows Start Word) (next : Header) → AreToldInPart w starts told last next → status ≡ ends.More → text ≡ part told last next
      → IsTold rows nothing whole part w starts status text

-- where something is told its status or more, and its status where the cells are few; the other where nothing is
pub record IsDecidedBy (rows nothing : Status) (SomeTold FewCells : Type 0) (status : Status) : Type 0 where
  pub some : SomeTold → (status ≡ rows) ⊎ (status ≡ ends.More)
  pub few : SomeTold → FewCells → status ≡ rows
  pub none : (SomeTold → ⊥) → status ≡ nothing
