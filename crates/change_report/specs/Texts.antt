-- How the answer is printed. Each line ends with one newline.
use Rattle.std.specs.Prelude.{◌++◌, ◌+◌, ◌∷◌, [], List, codes, decimal, ℕ}
use Rattle.block_report.specs.Reports.{box_text}
use Rattle.block_report.specs.Walks.{phase_text, stop_text}
use Rattle.block_report.specs.Words.{line_end, word}
use Rattle.header_boxes.specs.declared.rows.Row.{Row}
use Rattle.journey_changes.specs.declared.changes.Change.{Change}
use Rattle.journey_changes.specs.declared.changes.Change.TheVariants as changes
use Rattle.journey_changes.specs.declared.fates.Barrier.{Barrier}
use Rattle.journey_changes.specs.declared.fates.Barrier.TheVariants as barriers
use Rattle.listing_text.specs.Texts.{told_lines_from}
use Rattle.listing_text.specs.Texts as texts
use Rattle.listing_text.specs.Told.{row_count}
use Rattle.query_words.specs.declared.changes.ChangedEnd.{ChangedEnd}
use Rattle.vpc_laws.specs.Types.{Description, Header}
use Rattle.vpc_model.specs.Told.{end_id}
use Rattle.changed_ends.specs.Asked.{Comparison, changed_id}
use Rattle.change_report.specs.Told.{ChangeRows}

-- ---- rows

-- that there is no start with this id
abbrev pub absent_text : List ℕ → List ℕ
absent_text id = codes "request Absent" ++ word id ++ word (codes "-")

-- what keeps a request from a start with this id: four words
abbrev pub barrier_text : Description → List ℕ → Barrier → List ℕ
barrier_text d id (barriers.Stopped phase s) = phase_text phase ++ word (stop_text d s)
barrier_text d id barriers.Absent = absent_text id

-- what changes for requests from a start with this id
abbrev pub change_text : Description → Description → List ℕ → Change → List ℕ
change_text before after id (changes.Opened e barrier) = codes "opened" ++ word (end_id after e) ++ word (barrier_text before id barrier)
change_text before after id (changes.Closed e barrier) = codes "closed" ++ word (end_id before e) ++ word (barrier_text after id barrier)
change_text before after id (changes.Moved e f) = codes "moved" ++ word (end_id before e) ++ word (end_id after f)

-- a row with its number
abbrev pub row_line : Description → Description → ℕ → List ℕ → Row Change → List ℕ
row_line before after n id row =
    codes "row" ++ word (decimal n) ++ word id ++ word (change_text before after id row.word) ++ word (box_text row.part) ++ line_end

-- the rows of a start, numbered from n on
abbrev pub row_lines_from : Description → Description → ℕ → List ℕ → List (Row Change) → List ℕ
row_lines_from before after n id [] = []
row_lines_from before after n id (row ∷ rows) = row_line before after n id row ++ row_lines_from before after (n + 1) id rows

-- the id of a start
abbrev pub start_id : Comparison → ChangedEnd → List ℕ
start_id c start = changed_id c.before c.after start

-- those of a start
abbrev pub lines_at : Comparison → ℕ → ChangedEnd → List (Row Change) → List ℕ
lines_at c n start rows = row_lines_from c.before c.after n (start_id c start) rows

-- ---- answers

-- by the lines of the rows
abbrev pub whole_of : List (List ℕ) → List ℕ → ℕ → List ℕ
whole_of words lines count = texts.whole_of (codes "vpc-diff 1") 3 words lines count

abbrev pub part_of : List (List ℕ) → List ℕ → List ℕ → Header → List ℕ
part_of words lines id next = texts.part_of (codes "more changes") 3 words lines id next

-- all rows
abbrev pub whole_text : Comparison → List (List ℕ) → List ChangeRows → List ℕ
whole_text c words told = whole_of words (told_lines_from (lines_at c) 1 told) (row_count told)

-- rows that leave headers out
abbrev pub part_text : Comparison → List (List ℕ) → List ChangeRows → ChangeRows → Header → List ℕ
part_text c words told last next = part_of words (told_lines_from (lines_at c) 1 (told ++ last ∷ [])) (start_id c last.start) next
