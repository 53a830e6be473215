-- Printed lines.
use Rattle.std.specs.Prelude.{◌++◌, List, codes, ℕ}
use Rattle.block_report.specs.Queries.{query_refusal_text}
use Rattle.block_report.specs.Words.{line_end, word}
use Rattle.query_words.specs.declared.refusal.QueryRefusal.{QueryRefusal}

-- a text with its newline
abbrev pub line : List ℕ → List ℕ
line text = text ++ line_end

-- the line of a refusal of the query's words
abbrev pub query_refusal_line : QueryRefusal → List ℕ
query_refusal_line refusal = line (codes "refused query" ++ word (query_refusal_text refusal))

-- the line that refuses a second file, as one of events, for this cause
abbrev pub file_refusal_line : List ℕ → List ℕ → List ℕ
file_refusal_line name cause = line (codes "refused" ++ word name ++ word cause)
