-- What `reach` answers in a described network.
use Rattle.std.specs.Prelude.{◌≡◌, ◌<◌, ◌≤◌, Err, List, None, Ok, Option, Some, codes, length, ℕ}
use Rattle.command_job.specs.Lines.{line, query_refusal_line}
use Rattle.command_job.specs.declared.status.Status.{Status}
use Rattle.command_job.specs.declared.status.Status.TheVariants as ends
use Rattle.described_hosts.specs.Hosts.{host_count}
use Rattle.listing_text.specs.Answered.{IsDecidedBy, IsTold, host_limit, status_by}
use Rattle.listing_text.specs.Told.{FewCells as FewCellsOf, SomeTold}
use Rattle.query_words.specs.ReachQuery.{AreGivenEnds, AreReachPairs, reach_query_of}
use Rattle.query_words.specs.declared.reaches.ReachQuery.{ReachQuery}
use Rattle.query_words.specs.declared.refusal.QueryRefusal.{QueryRefusal}
use Rattle.vpc_laws.specs.Types.{Description, End, Header}
use Rattle.end_reach.specs.Asked.{AreStarts, AreTargets}
use Rattle.end_reach.specs.Told.{wanted}
use Rattle.end_reach.specs.Texts.{part_of, part_text, whole_of, whole_text}

-- ---- refusals

-- no end is given, and there are more
pub record IsTooMany (d : Description) (query : ReachQuery) : Type 0 where
  pub start : query.start ≡ None
  pub goal : query.goal ≡ None
  pub many : host_limit < host_count d

abbrev pub too_many_line : List ℕ
too_many_line = line (codes "refused reach TooManyInterfaces")

-- ---- answers

-- what is told of the requests of a query: some get through, or none, or more than are asked for
abbrev pub IsReachTold : Description → ReachQuery → List (List ℕ) → List (ℕ × ℕ) → List End → Status → List ℕ → Type 0
IsReachTold d query words targets starts status text = IsTold ends.Yes ends.No (whole_text d words) (part_text d words) (wanted d query targets) starts status text

-- what is told of the requests of a query, with the destinations and the starts that it is about
pub record IsAnswerTo (d : Description) (query : ReachQuery) (words : List (List ℕ)) (status : Status) (text : List ℕ) : Type 0 where
  pub targets : List (ℕ × ℕ)
  pub targets_are : AreTargets d query.pairs.dst query.goal targets
  pub starts : List End
  pub starts_are : AreStarts d query.pairs.src query.start query.goal starts
  pub told : IsReachTold d query words targets starts status text

-- a query whose ends are described and whose sides are not empty, with the words that gave it
pub record CanBeTold {T : Type 0} (d : Description) (query : ReachQuery) (words : List T) : Type 0 where
  pub ends_are : AreGivenEnds d query
  pub pairs_are : AreReachPairs query.pairs
  pub counted : 2 ≤ length words

-- the lines of rows, printed as an answer: all, or those with a header that is left out
abbrev pub IsPrinted : Description → List (List ℕ) → List ℕ → ℕ → Option (End × Header) → Status → List ℕ → Type 0
IsPrinted d words lines count None status text = (status ≡ status_by ends.Yes ends.No count) × (text ≡ whole_of words lines count)
IsPrinted d words lines count (Some next) status text = (status ≡ ends.More) × (text ≡ part_of d words lines next.0 next.1)

-- that it is about too many interfaces, or what is told
pub data IsToldUnlessTooMany (d : Description) (query : ReachQuery) (words : List (List ℕ)) (status : Status) (text : List ℕ) : Type 0 where
  too_many : IsTooMany d query → status ≡ ends.Query → text ≡ too_many_line → IsToldUnlessTooMany d query words status text
  told : (IsTooMany d query → ⊥) → IsAnswerTo d query words status text → IsToldUnlessTooMany d query words status text

-- what `reach` answers to its words: why they give no query, that it is about too many interfaces, or what is told
pub data IsReachAnswered (d : Description) (words : List (List ℕ)) (status : Status) (text : List ℕ) : Type 0 where
  refused : (refusal : QueryRefusal) → reach_query_of d words ≡ Err refusal → status ≡ ends.Query → text ≡ query_refusal_line refusal → IsReachAnswered d words status text
  answered : (query : ReachQuery) → reach_query_of d words ≡ Ok query → IsToldUnlessTooMany d query words status text → IsReachAnswered d words status text

-- ---- completeness

-- some request that is asked for reaches an end
abbrev pub SomeReaches : Description → ReachQuery → Type 0
SomeReaches d query = SomeTold (AreTargets d query.pairs.dst query.goal) (AreStarts d query.pairs.src query.start query.goal) (wanted d query)

-- cuts that have all of the description make no more cells of the boxes than rows are asked for
abbrev pub FewCells : Description → ReachQuery → Type 0
FewCells d query = FewCellsOf (AreTargets d query.pairs.dst query.goal) (AreStarts d query.pairs.src query.start query.goal) (wanted d query)

-- yes or more where some request reaches an end, and yes where the cells are few; no where none does
abbrev pub IsDecided : Description → ReachQuery → Status → Type 0
IsDecided d query status = IsDecidedBy ends.Yes ends.No (SomeReaches d query) (FewCells d query) status

-- where the words give a query that isn't about too many interfaces, it is decided
abbrev pub IsReachDecided : Description → List (List ℕ) → Status → Type 0
IsReachDecided d words status = (query : ReachQuery) → reach_query_of d words ≡ Ok query → (IsTooMany d query → ⊥) → IsDecided d query status
