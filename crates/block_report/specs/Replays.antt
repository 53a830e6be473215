-- How the packets of a replay are told: one line each, numbered from 1.
use Rattle.std.specs.Prelude.{◌+◌, ◌++◌, ◌∷◌, [], List, codes, decimal, ℕ}
use Rattle.vpc_laws.specs.Types.{Description, Header, Outcome}
use Rattle.vpc_model.specs.declared.outcomes.Outcome.TheVariants as outcomes
use Rattle.vpc_model.specs.Told.{end_id}
use Rattle.block_report.specs.Walks.{stop_text}
use Rattle.block_report.specs.Words.{header_text, line_end, word}

-- an arrival at the end with this id, with the header that arrived
abbrev pub arrival_text : List ℕ → Header → List ℕ
arrival_text id h = codes "arrived" ++ word id ++ word (header_text h)

-- where a packet arrived and with which header, or what stopped it
abbrev pub ending_text : Description → Outcome → List ℕ
ending_text d (outcomes.Arrived end h) = arrival_text (end_id d end) h
ending_text d (outcomes.Stopped s) = codes "stopped" ++ word (stop_text d s)

-- the number of a packet
abbrev pub event_text : ℕ → List ℕ
event_text n = codes "event" ++ word (decimal n)

-- the line of the packet with this number
abbrev pub event_line : Description → ℕ → Outcome → List ℕ
event_line d n outcome = event_text n ++ word (ending_text d outcome) ++ line_end

-- the lines of packets, from a number on
abbrev pub event_lines_from : Description → ℕ → List Outcome → List ℕ
event_lines_from d n [] = []
event_lines_from d n (o ∷ os) = event_line d n o ++ event_lines_from d (n + 1) os

-- the lines of all packets
abbrev pub replay_text : Description → List Outcome → List ℕ
replay_text d outcomes = event_lines_from d 1 outcomes
