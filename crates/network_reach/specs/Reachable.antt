-- How a request that gets through is printed, part by part.
use Rattle.std.specs.Prelude.{◌++◌, List, codes, ℕ}
use Rattle.block_report.specs.Hops.{hop_lines}
use Rattle.block_report.specs.Walks.{arrived_line}
use Rattle.block_report.specs.Words.{header_text, line_end, word}
use Rattle.vpc_laws.specs.Types.{Description, End, Header, Hop}
use Rattle.vpc_model.specs.Told.{end_id}

-- the header
unfoldable pub packet_line : Header → List ℕ
packet_line h = codes "packet" ++ word (header_text h) ++ line_end

unfoldable pub packet_text : Header → List ℕ
packet_text h = (codes "reachable" ++ line_end) ++ packet_line h

-- the hops of a walk, and where it arrives
abbrev pub arrival_text : Description → List Hop → End → List ℕ
arrival_text d hops end = hop_lines d hops ++ arrived_line (end_id d end)

-- the name of the phase, the hops of its walk, and where it arrives
unfoldable pub phase_text : Description → List ℕ → List Hop → End → List ℕ
phase_text d name hops end = (name ++ line_end) ++ arrival_text d hops end
