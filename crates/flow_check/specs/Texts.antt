-- How the lines that differ are printed, and how many others there are.
use Rattle.std.specs.List.{flat_map}
use Rattle.std.specs.Prelude.{◌++◌, List, codes, decimal, length, ℕ}
use Rattle.block_report.specs.Hops.{by_text}
use Rattle.block_report.specs.Walks.{stop_text}
use Rattle.block_report.specs.Words.{line_end, word}
use Rattle.vpc_laws.specs.Types.{Description}
use Rattle.flow_check.specs.Flows.{FlowList}
use Rattle.flow_check.specs.declared.kinds.FlowCounts.{FlowCounts}
use Rattle.flow_check.specs.declared.kinds.FlowKind.{FlowKind}
use Rattle.flow_check.specs.declared.kinds.FlowKind.TheVariants as kinds
use Rattle.flow_check.specs.declared.kinds.FlowLine.{FlowLine}

-- the action of the line, and what the rules say instead
abbrev pub kind_text : Description → FlowKind → List ℕ
kind_text d (kinds.Accepted s) = codes " ACCEPT" ++ word (stop_text d s)
kind_text d (kinds.Rejected by) = codes " REJECT" ++ by_text d by

-- a line that differs, by its number
abbrev pub flow_line : Description → FlowLine → List ℕ
flow_line d l = codes "line" ++ word (decimal l.line) ++ kind_text d l.kind ++ line_end

abbrev pub flow_lines : Description → List FlowLine → List ℕ
flow_lines d lines = flat_map (flow_line d) lines

-- how many lines agree and differ
abbrev pub judged_text : ℕ → ℕ → List ℕ
judged_text agreeing differing = codes "ok" ++ word (decimal agreeing) ++ codes " differ" ++ word (decimal differing)

-- how many intervals have nothing to judge
abbrev pub empty_text : ℕ → ℕ → List ℕ
empty_text nodata skipdata = codes " nodata" ++ word (decimal nodata) ++ codes " skipdata" ++ word (decimal skipdata)

-- how many lines are not judged
abbrev pub unjudged_text : ℕ → ℕ → List ℕ
unjudged_text unknown skipped = codes " unknown" ++ word (decimal unknown) ++ codes " skipped" ++ word (decimal skipped)

-- how many lines there are of each sort
abbrev pub counts_line : ℕ → FlowCounts → List ℕ
counts_line differing c =
    judged_text c.agreeing differing ++ empty_text c.nodata c.skipdata ++ unjudged_text c.unknown c.skipped ++ line_end

-- all that is told of a log
abbrev pub flows_text : Description → FlowList → List ℕ
flows_text d a = flow_lines d a.differing ++ counts_line (length a.differing) a.counts
