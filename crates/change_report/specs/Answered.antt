-- What `diff` answers about two described networks.
use Rattle.std.specs.Prelude.{◌≡◌, ◌<◌, ◌≤◌, Err, List, None, Ok, Option, Some, codes, length, ℕ}
use Rattle.command_job.specs.Lines.{line, query_refusal_line}
use Rattle.command_job.specs.declared.status.Status.{Status}
use Rattle.command_job.specs.declared.status.Status.TheVariants as ends
use Rattle.listing_text.specs.Answered.{IsDecidedBy, IsTold, host_limit, status_by}
use Rattle.listing_text.specs.Told.{FewCells as FewCellsOf, SomeTold}
use Rattle.query_words.specs.ChangeQuery.{change_query_of}
use Rattle.query_words.specs.ReachQuery.{AreReachPairs}
use Rattle.query_words.specs.declared.changes.ChangeQuery.{ChangeQuery}
use Rattle.query_words.specs.declared.changes.ChangedEnd.{ChangedEnd}
use Rattle.query_words.specs.declared.refusal.QueryRefusal.{QueryRefusal}
use Rattle.vpc_laws.specs.Types.{Description, Header}
use Rattle.changed_ends.specs.Asked.{AreStarts, AreTargets, Comparison, HasEnds, comparison, hosts_of_either}
use Rattle.change_report.specs.Told.{wanted}
use Rattle.change_report.specs.Texts.{part_of, part_text, start_id, whole_of, whole_text}

-- ---- refusals

-- no end is given, and the two networks have more, by their ids
pub record IsTooMany (c : Comparison) : Type 0 where
  pub start : c.query.start ≡ None
  pub goal : c.query.goal ≡ None
  pub many : host_limit < length (hosts_of_either c.before c.after)

abbrev pub too_many_line : List ℕ
too_many_line = line (codes "refused diff TooManyInterfaces")

-- ---- answers

-- what is told of the requests of a query: something changed, or nothing, or more than is asked for
abbrev pub IsDiffTold : Comparison → List (List ℕ) → List (ℕ × ℕ) → List ChangedEnd → Status → List ℕ → Type 0
IsDiffTold c words targets starts status text = IsTold ends.No ends.Yes (whole_text c words) (part_text c words) (wanted c targets) starts status text

-- what is told of the requests of a query, with the destinations and the starts that it is about
pub record IsAnswerTo (c : Comparison) (words : List (List ℕ)) (status : Status) (text : List ℕ) : Type 0 where
  pub targets : List (ℕ × ℕ)
  pub targets_are : AreTargets c targets
  pub starts : List ChangedEnd
  pub starts_are : AreStarts c starts
  pub told : IsDiffTold c words targets starts status text

-- a query whose ends are described and whose sides are not empty, with the words that gave it
pub record CanBeTold {T : Type 0} (c : Comparison) (words : List T) : Type 0 where
  pub ends_are : HasEnds c
  pub pairs_are : AreReachPairs c.query.pairs
  pub counted : 3 ≤ length words

-- the lines of rows, printed as an answer: all, or those with a header that is left out
abbrev pub IsPrinted : Comparison → List (List ℕ) → List ℕ → ℕ → Option (ChangedEnd × Header) → Status → List ℕ → Type 0
IsPrinted c words lines count None status text = (status ≡ status_by ends.No ends.Yes count) × (text ≡ whole_of words lines count)
IsPrinted c words lines count (Some next) status text = (status ≡ ends.More) × (text ≡ part_of words lines (start_id c next.0) next.1)

-- that it is about too many interfaces, or what is told
pub data IsToldUnlessTooMany (c : Comparison) (words : List (List ℕ)) (status : Status) (text : List ℕ) : Type 0 where
  too_many : IsTooMany c → status ≡ ends.Query → text ≡ too_many_line → IsToldUnlessTooMany c words status text
  told : (IsTooMany c → ⊥) → IsAnswerTo c words status text → IsToldUnlessTooMany c words status text

-- what `diff` answers to its words: why they give no query, that it is about too many interfaces, or what is told
pub data IsDiffAnswered (before after : Description) (words : List (List ℕ)) (status : Status) (text : List ℕ) : Type 0 where
  refused : (refusal : QueryRefusal) → change_query_of before after words ≡ Err refusal → status ≡ ends.Query → text ≡ query_refusal_line refusal
      → IsDiffAnswered before after words status text
  answered : (query : ChangeQuery) → change_query_of before after words ≡ Ok query → IsToldUnlessTooMany (comparison before after query) words status text
      → IsDiffAnswered before after words status text

-- ---- completeness

-- for some request that is asked for something changes
abbrev pub SomeChanges : Comparison → Type 0
SomeChanges c = SomeTold (AreTargets c) (AreStarts c) (wanted c)

-- cuts that have all of both descriptions make no more cells of the boxes than rows are asked for
abbrev pub FewCells : Comparison → Type 0
FewCells c = FewCellsOf (AreTargets c) (AreStarts c) (wanted c)

-- no or more where something changes, and no where the cells are few; yes where nothing does
abbrev pub IsDecided : Comparison → Status → Type 0
IsDecided c status = IsDecidedBy ends.No ends.Yes (SomeChanges c) (FewCells c) status

-- where the words give a query that isn't about too many interfaces, it is decided
abbrev pub IsDiffDecided : Description → Description → List (List ℕ) → Status → Type 0
IsDiffDecided before after words status =
    (query : ChangeQuery) → change_query_of before after words ≡ Ok query → (IsTooMany (comparison before after query) → ⊥)
    → IsDecided (comparison before after query) status
