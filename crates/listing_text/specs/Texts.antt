-- How rows of starts are printed. Each line ends with one newline.
use Rattle.std.specs.List.{flat_map}
use Rattle.std.specs.Prelude.{◌++◌, ◌+◌, ◌-◌, ◌∷◌, [], if◌then◌else◌, List, bytes_eq, codes, decimal, drop, length, take, ℕ}
use Rattle.block_report.specs.Words.{header_text, line_end, word}
use Rattle.header_boxes.specs.declared.rows.Row.{Row}
use Rattle.query_words.specs.Words.{word_at}
use Rattle.vpc_base.specs.declared.headers.Header.{Header}
use Rattle.listing_text.specs.Told.{StartRows}

-- ---- the query

-- the words after the command and its files, but for `max` and its number, which come last
abbrev pub given_words : ℕ → List (List ℕ) → List (List ℕ)
given_words before words =
    let given = drop before words in
    if bytes_eq (word_at words (length words - 1)) (codes "max") then take (length given - 2) given else given

abbrev pub query_line : ℕ → List (List ℕ) → List ℕ
query_line before words = codes "query" ++ flat_map word (given_words before words) ++ line_end

-- ---- rows

-- the rows of some starts, one start after another, numbered through from n on, where the lines of one start's rows are given
abbrev pub told_lines_from : {Start Word : Type 0} → (ℕ → Start → List (Row Word) → List ℕ) → ℕ → List (StartRows Start Word) → List ℕ
told_lines_from lines n [] = []
told_lines_from lines n (t ∷ told) = lines n t.start t.rows ++ told_lines_from lines (n + length t.rows) told

-- ---- answers

-- how many rows there are
abbrev pub end_line : ℕ → List ℕ
end_line count = codes "end" ++ word (decimal count) ++ line_end

-- the first header that rows leave out, with the id of its start
abbrev pub next_line : List ℕ → Header → List ℕ
next_line id next = codes "next" ++ word id ++ word (header_text next) ++ line_end

-- all rows, by their lines
abbrev pub whole_of : List ℕ → ℕ → List (List ℕ) → List ℕ → ℕ → List ℕ
whole_of first before words lines count = (first ++ line_end) ++ query_line before words ++ lines ++ end_line count

-- rows that leave headers out
abbrev pub part_of : List ℕ → ℕ → List (List ℕ) → List ℕ → List ℕ → Header → List ℕ
part_of first before words lines id next = (first ++ line_end) ++ query_line before words ++ lines ++ next_line id next
