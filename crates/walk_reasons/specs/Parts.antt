-- The parts of which the text of a walk with its reasons is put together.
use Rattle.std.specs.Prelude.{◌+◌, ◌++◌, ◌∷◌, [], List, ℕ}
use Rattle.vpc_laws.specs.Types.{Description, Header, Hop}
use Rattle.block_report.specs.Hops.{hop_line}
use Rattle.walk_reasons.specs.Decisions.{decided}
use Rattle.walk_reasons.specs.Reasons.{decision_lines, rewritten}

-- what the header has become, the hop's line, and what decides there
abbrev pub hop_text : Description → ℕ → Header → Hop → List ℕ
hop_text d n before hop = decision_lines d (rewritten before hop.header) ++ hop_line d n hop ++ decision_lines d (decided d hop)

-- those of all hops, from a number on
abbrev pub hops_text : Description → ℕ → Header → List Hop → List ℕ
hops_text d n before [] = []
hops_text d n before (hop ∷ rest) = hop_text d n before hop ++ hops_text d (n + 1) hop.header rest
