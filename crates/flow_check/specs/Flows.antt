-- A whole flow log against the rules.
use Rattle.std.specs.List.{filter_map, find}
use Rattle.std.specs.Prelude.{◌≡◌, Bool, Err, List, None, Ok, Option, Result, Some, count_by, false, is_none, option_map, true, ℕ}
use Rattle.vpc_laws.specs.Types.{Description}
use Rattle.flow_check.specs.Lines.{numbered_lines}
use Rattle.flow_check.specs.Records.{record_of}
use Rattle.flow_check.specs.Sorts.{sort_of}
use Rattle.flow_check.specs.declared.kinds.FlowAnswer.{FlowAnswer}
use Rattle.flow_check.specs.declared.kinds.FlowCounts.{FlowCounts}
use Rattle.flow_check.specs.declared.kinds.FlowFault.{FlowFault}
use Rattle.flow_check.specs.declared.kinds.FlowFault.TheVariants as faults
use Rattle.flow_check.specs.declared.kinds.FlowLine.{FlowLine}
use Rattle.flow_check.specs.declared.sorts.Sort.{Sort}
use Rattle.flow_check.specs.declared.sorts.Sort.TheVariants as sorts

-- the number of the first line that is outside the grammar
abbrev pub bad_line : List (ℕ × List ℕ) → Option ℕ
bad_line lines = option_map (λ l. l.0) (find (λ l. is_none (record_of l.1)) lines)

-- ---- lines of the grammar

-- the number of a line, and what becomes of it
abbrev pub sorted_line : Description → ℕ × List ℕ → Option (ℕ × Sort)
sorted_line d l = option_map (λ r. (l.0, sort_of d r)) (record_of l.1)

abbrev pub sorted_lines : Description → List (ℕ × List ℕ) → List (ℕ × Sort)
sorted_lines d lines = filter_map (sorted_line d) lines

-- a line that differs, with how it does
abbrev pub differing : ℕ × Sort → Option FlowLine
differing (n, sorts.Differs kind) = Some (record { line = n; kind = kind })
differing (n, _) = None

abbrev pub agrees : ℕ × Sort → Bool
agrees (n, sorts.Agrees) = true
agrees (n, _) = false

abbrev pub is_nodata : ℕ × Sort → Bool
is_nodata (n, sorts.NoData) = true
is_nodata (n, _) = false

abbrev pub is_skipdata : ℕ × Sort → Bool
is_skipdata (n, sorts.SkipData) = true
is_skipdata (n, _) = false

abbrev pub is_unknown : ℕ × Sort → Bool
is_unknown (n, sorts.Unknown) = true
is_unknown (n, _) = false

abbrev pub is_skipped : ℕ × Sort → Bool
is_skipped (n, sorts.Skipped) = true
is_skipped (n, _) = false

-- how many lines there are of each sort
abbrev pub counts_of : List (ℕ × Sort) → FlowCounts
counts_of lines = record {
  agreeing = count_by agrees lines;
  nodata = count_by is_nodata lines;
  skipdata = count_by is_skipdata lines;
  unknown = count_by is_unknown lines;
  skipped = count_by is_skipped lines;
}

-- ---- the log

-- the lines that differ, and how many others there are
pub record FlowList : Type 0 where
  pub differing : List FlowLine
  pub counts : FlowCounts

-- what is told of lines, where all are of the grammar
abbrev pub told_of : List (ℕ × Sort) → FlowList
told_of lines = record { differing = filter_map differing lines; counts = counts_of lines }

-- what is told of lines, or the number of a bad one
abbrev pub told_unless : Option ℕ → List (ℕ × Sort) → Result FlowList ℕ
told_unless (Some number) lines = Err number
told_unless None lines = Ok (told_of lines)

-- what is told of a log, or the number of the first line that is outside the grammar
abbrev pub flows_of : Description → List ℕ → Result FlowList ℕ
flows_of d text = let lines = numbered_lines text in told_unless (bad_line lines) (sorted_lines d lines)

-- ---- answers

-- an answer as a list
abbrev pub told_by : FlowAnswer → FlowList
told_by a = record { differing = a.differing.items; counts = a.counts }

-- what is meant was told, or memory was wanting
abbrev pub AreFlows : Result FlowList ℕ → Result FlowAnswer FlowFault → Type 0
AreFlows meant (Ok answer) = meant ≡ Ok (told_by answer)
AreFlows meant (Err (faults.BadLine number)) = meant ≡ Err number
AreFlows meant (Err faults.Memory) = Unit {0}
