-- How the answers to a query are printed. Each line ends with one newline.
use Rattle.std.specs.Prelude.{◌≡◌, ◌++◌, ◌∷◌, ◌+◌, [], All, List, None, Option, Some, codes, decimal, length, map, option_and_then, true, ℕ}
use Rattle.vpc_laws.specs.Types.{Box5, Description, End, Header, Outcome, Phase, Row, Stop, StopText}
use Rattle.vpc_model.specs.declared.outcomes.Outcome.TheVariants as outcomes
use Rattle.prefix_text.specs.Addr.{addr_text}
use Rattle.prefix_text.specs.Range.{range_text}
use Rattle.vpc_base.specs.Header.{reply_of}
use Rattle.vpc_model.specs.Appliances.{Appliances}
use Rattle.block_report.specs.Walks.{told_text, walk_text}
use Rattle.block_report.specs.Words.{header_line, line_end, number_line, word}
use Rattle.vpc_model.specs.Id.{is_id}
use Rattle.vpc_model.specs.Sound.{has_text}
use Rattle.vpc_model.specs.Told.{end_id, told_stop}
use Rattle.vpc_model.specs.Verdict.{reply_walk, request_walk}
use Rattle.vpc_model.specs.Walk.{Walk}

-- ---- a header that gets through

-- the header that arrived, if one did
abbrev pub arrived_header : Outcome → Option Header
arrived_header (outcomes.Arrived end h) = Some h
arrived_header (outcomes.Stopped s) = None

-- the lines of a walk
abbrev pub lines_of_walk : Description → Walk → List ℕ
lines_of_walk d w = walk_text d w.hops w.outcome

-- the lines of the reply's walk, where there is a reply
abbrev pub reply_lines : Description → Appliances → End → Walk → Option Header → List ℕ
reply_lines d appliances goal request None = []
reply_lines d appliances goal request (Some r) = lines_of_walk d (reply_walk d appliances goal r request)

-- the header with its two walks
abbrev pub walks_text : Description → Appliances → End → Header → Walk → List ℕ
walks_text d appliances goal h request =
    codes "reachable" ++ line_end
    ++ header_line (codes "packet") h
    ++ (codes "request" ++ line_end ++ lines_of_walk d request)
    ++ (codes "reply" ++ line_end ++ reply_lines d appliances goal request (option_and_then reply_of (arrived_header request.outcome)))

-- the answer for a header that gets through
abbrev pub reachable_text : Description → Appliances → End → End → Header → List ℕ
reachable_text d appliances start goal h = walks_text d appliances goal h (request_walk d appliances start h)

-- ---- reports

-- two addresses with a dash between them
abbrev pub addresses_text : ℕ × ℕ → List ℕ
addresses_text r = addr_text r.0 ++ codes "-" ++ addr_text r.1

-- five ranges: protocols, sources, destinations, p and q
abbrev pub box_text : Box5 → List ℕ
box_text b = range_text b.proto ++ word (addresses_text b.src) ++ word (addresses_text b.dst) ++ word (range_text b.p) ++ word (range_text b.q)

-- the ids of the two ends of a query
abbrev pub ends_line : List ℕ → List ℕ → List ℕ
ends_line from_id to_id = codes "query from" ++ word from_id ++ word (codes "to") ++ word to_id ++ line_end

-- the box of a query
abbrev pub box_line : Box5 → List ℕ
box_line whole = codes "box" ++ word (box_text whole) ++ line_end

-- a row with its number, from 1
abbrev pub row_line : ℕ → Row StopText → List ℕ
row_line n row = codes "row" ++ word (decimal n) ++ word (told_text row.word) ++ word (box_text row.part) ++ line_end

-- rows that are numbered from n on
abbrev pub row_lines_from : ℕ → List (Row StopText) → List ℕ
row_lines_from n [] = []
row_lines_from n (row ∷ rows) = row_line n row ++ row_lines_from (n + 1) rows

-- a query by the ids of its ends, with its rows
abbrev pub query_text : List ℕ → List ℕ → Box5 → List (Row StopText) → List ℕ
query_text from_id to_id whole rows = ends_line from_id to_id ++ box_line whole ++ row_lines_from 1 rows

-- a report, whose rows hold every header, by the ids of the two ends
abbrev pub report_of : List ℕ → List ℕ → Box5 → List (Row StopText) → List ℕ
report_of from_id to_id whole rows =
    (codes "vpc-report 1" ++ line_end) ++ query_text from_id to_id whole rows ++ number_line (codes "end") (length rows)

-- rows that leave headers out, with the first of these and the number of cells, by the ids of the two ends
abbrev pub more_of : List ℕ → List ℕ → Box5 → List (Row StopText) → Header → ℕ → List ℕ
more_of from_id to_id whole rows next cells =
    (codes "more boxes" ++ line_end) ++ query_text from_id to_id whole rows
    ++ header_line (codes "next") next
    ++ number_line (codes "cells") cells

-- a report in a network
abbrev pub report_text : Description → End → End → Box5 → List (Row StopText) → List ℕ
report_text d start goal whole rows = report_of (end_id d start) (end_id d goal) whole rows

-- rows that leave headers out, in a network
abbrev pub more_text : Description → End → End → Box5 → List (Row StopText) → Header → ℕ → List ℕ
more_text d start goal whole rows next cells = more_of (end_id d start) (end_id d goal) whole rows next cells

-- what is told of the stop of a row
abbrev pub told_row : Description → Row (Phase × Stop) → Row StopText
told_row d row = record { part = row.part; word = told_stop d row.word.0 row.word.1 }

-- what is told of the stops of rows
abbrev pub told_rows : Description → List (Row (Phase × Stop)) → List (Row StopText)
told_rows d rows = map (told_row d) rows

-- the stop of each row has a text
abbrev pub HaveText : Description → List (Row (Phase × Stop)) → Type 0
HaveText d rows = All (λ row. has_text d row.word.1 ≡ true) rows

-- the component and the rule of a row are ids
abbrev pub HasIds : Row StopText → Type 0
HasIds row = (is_id row.word.id ≡ true) × (is_id row.word.rule ≡ true)

-- what is named in a report is named by ids
pub record AreIds (d : Description) (from to : End) (told : List (Row StopText)) : Type 0 where
  pub start : is_id (end_id d from) ≡ true
  pub goal : is_id (end_id d to) ≡ true
  pub rows : All HasIds told
