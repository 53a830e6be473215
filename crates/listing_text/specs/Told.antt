-- What is told of the requests of starts, one start after another: boxes of requests, each with the one word that is told of them.
use Rattle.std.specs.Prelude.{◌≡◌, ◌≢◌, ◌≤◌, ◌++◌, ◌-◌, ◌∷◌, All, Contains, List, None, Option, length, map, sum_by, true, ℕ}
use Rattle.box_gather.specs.Over.{IsPartOver, IsWholeOver, cells_over, is_in}
use Rattle.header_boxes.specs.declared.boxes.Box5.{Box5}
use Rattle.header_boxes.specs.declared.rows.Row.{Row}
use Rattle.vpc_base.specs.Cuts.{AreAmong, CutLists}
use Rattle.vpc_base.specs.declared.headers.Header.{Header}

-- what is asked: the boxes of each start's requests, what is told of a request from it, the cuts at which that may change, and how many rows may be told
pub record Wanted (Start Word : Type 0) : Type 0 where
  pub boxes : Start → List Box5
  pub word : Start → Header → Option Word
  pub cuts : CutLists
  pub max : ℕ

-- a start with its rows
pub record StartRows (Start Word : Type 0) : Type 0 where
  pub start : Start
  pub rows : List (Row Word)

-- how many rows there are
abbrev pub row_count : {Start Word : Type 0} → List (StartRows Start Word) → ℕ
row_count told = sum_by (λ t. length t.rows) told

-- disjoint rows, by their low corners, of requests from the start of which something is told, which hold all of them
abbrev pub IsToldFrom : {Start Word : Type 0} → Wanted Start Word → StartRows Start Word → Type 0
IsToldFrom w t = IsWholeOver (w.word t.start) w.cuts (w.boxes t.start) w.max t.rows

-- such rows for each start, not more than asked for
pub record AreToldAll {Start Word : Type 0} (w : Wanted Start Word) (starts : List Start) (told : List (StartRows Start Word)) : Type 0 where
  pub starts_are : map (λ t. t.start) told ≡ starts
  pub each : All (IsToldFrom w) told
  pub few : row_count told ≤ w.max

-- such rows for the first starts; and from the next as many as are still asked for, with the first header that they leave out
pub record AreToldInPart {Start Word : Type 0} (w : Wanted Start Word) (starts : List Start) (told : List (StartRows Start Word)) (last : StartRows Start Word) (next : Header) : Type 0 where
  pub rest : List Start
  pub starts_are : map (λ t. t.start) told ++ last.start ∷ rest ≡ starts
  pub each : All (IsToldFrom w) told
  pub few : row_count told ≤ w.max
  pub part : IsPartOver (w.word last.start) w.cuts (w.boxes last.start) (w.max - row_count told) last.rows next

-- ---- of a question, whose destinations and starts are known by what they are

-- of some request that is asked for something is told
pub record SomeTold {Start Word : Type 0} (AreTargets : List (ℕ × ℕ) → Type 0) (AreStarts : List Start → Type 0) (wanted : List (ℕ × ℕ) → Wanted Start Word) : Type 0 where
  pub targets : List (ℕ × ℕ)
  pub targets_are : AreTargets targets
  pub starts : List Start
  pub starts_are : AreStarts starts
  pub start : Start
  pub among : Contains starts start
  pub header : Header
  pub inside : is_in ((wanted targets).boxes start) header ≡ true
  pub told : (wanted targets).word start header ≢ None

-- cuts that have all of those at which something may change make no more cells of the boxes than rows are asked for
pub record FewCells {Start Word : Type 0} (AreTargets : List (ℕ × ℕ) → Type 0) (AreStarts : List Start → Type 0) (wanted : List (ℕ × ℕ) → Wanted Start Word) : Type 0 where
  pub targets : List (ℕ × ℕ)
  pub targets_are : AreTargets targets
  pub starts : List Start
  pub starts_are : AreStarts starts
  pub cuts : CutLists
  pub all : AreAmong (wanted targets).cuts cuts
  pub few : sum_by (λ start. cells_over cuts ((wanted targets).boxes start)) starts ≤ (wanted targets).max
