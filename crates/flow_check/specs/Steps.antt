-- What is told of the lines of a log that were read so far.
use Rattle.std.specs.Prelude.{◌++◌, ◌+◌, ◌<◌, ◌≡◌, ◌∷◌, [], Err, List, None, Ok, Option, Result, Some, ℕ}
use Rattle.vpc_laws.specs.Types.{Description}
use Rattle.flow_check.specs.Flows.{FlowList, told_by}
use Rattle.flow_check.specs.Records.{record_of}
use Rattle.flow_check.specs.Sorts.{sort_of}
use Rattle.flow_check.specs.declared.kinds.FlowAnswer.{FlowAnswer}
use Rattle.flow_check.specs.declared.kinds.FlowCounts.{FlowCounts}
use Rattle.flow_check.specs.declared.kinds.FlowFault.{FlowFault}
use Rattle.flow_check.specs.declared.kinds.FlowFault.TheVariants as faults
use Rattle.flow_check.specs.declared.kinds.FlowLine.{FlowLine}
use Rattle.flow_check.specs.declared.records.Record.{Record}
use Rattle.flow_check.specs.declared.sorts.Sort.{Sort}
use Rattle.flow_check.specs.declared.sorts.Sort.TheVariants as sorts

-- no lines yet
abbrev pub no_lines : FlowList
no_lines = record { differing = []; counts = record { agreeing = 0; nodata = 0; skipdata = 0; unknown = 0; skipped = 0 } }

-- one more line, unless it differs
abbrev pub counted : FlowCounts → Sort → FlowCounts
counted c sorts.NoData = record c { nodata = c.nodata + 1 }
counted c sorts.SkipData = record c { skipdata = c.skipdata + 1 }
counted c sorts.Unknown = record c { unknown = c.unknown + 1 }
counted c sorts.Skipped = record c { skipped = c.skipped + 1 }
counted c sorts.Agrees = record c { agreeing = c.agreeing + 1 }
counted c (sorts.Differs kind) = c

-- one more line, if it differs
abbrev pub joined : List FlowLine → ℕ → Sort → List FlowLine
joined lines n sorts.NoData = lines
joined lines n sorts.SkipData = lines
joined lines n sorts.Unknown = lines
joined lines n sorts.Skipped = lines
joined lines n sorts.Agrees = lines
joined lines n (sorts.Differs kind) = lines ++ record { line = n; kind = kind } ∷ []

-- one more line
abbrev pub added : FlowList → ℕ → Sort → FlowList
added a n s = record { differing = joined a.differing n s; counts = counted a.counts s }

-- one more line, if it says something
abbrev pub added_if : Description → FlowList → ℕ → Option Record → Result FlowList ℕ
added_if d a n None = Err n
added_if d a n (Some r) = Ok (added a n (sort_of d r))

abbrev pub after_line : Description → FlowList → ℕ → List ℕ → Result FlowList ℕ
after_line d a n line = added_if d a n (record_of line)

-- the answer was changed so, or the fault tells of a bad line or of memory
abbrev pub IsAfter : Result FlowList ℕ → FlowAnswer → Result (Unit {0}) FlowFault → Type 0
IsAfter meant answer (Ok done) = meant ≡ Ok (told_by answer)
IsAfter meant answer (Err (faults.BadLine number)) = meant ≡ Err number
IsAfter meant answer (Err faults.Memory) = Unit {0}

-- each count is below a number
pub record AreBelow (n : ℕ) (c : FlowCounts) : Type 0 where
  pub agreeing : c.agreeing < n
  pub nodata : c.nodata < n
  pub skipdata : c.skipdata < n
  pub unknown : c.unknown < n
  pub skipped : c.skipped < n
