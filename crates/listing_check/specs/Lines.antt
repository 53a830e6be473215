-- The first two lines of a listing: what it is, and the question that it answers.
use Rattle.std.specs.Prelude.{◌&&◌, ◌-◌, [], if◌then◌else◌, Bool, List, None, Option, Some, bytes_eq, codes, length, nat_le, not, option_and_then, slice_get, slice_index_or, ℕ}
use Rattle.query_words.specs.Events.{words_of}
use Rattle.report_reader.specs.Boxes.{word_at}
use Rattle.report_reader.specs.Reports.{lines_of, pieces_of}

-- the lines of a text, each of which ends with a newline
abbrev pub all_lines : List ℕ → List (List ℕ)
all_lines text = lines_of (pieces_of text)

-- the first line is this one
abbrev pub begins_with : List ℕ → List (List ℕ) → Bool
begins_with tag lines = bytes_eq (slice_index_or lines 0 []) tag

-- the last pair is `max N`
abbrev pub end_with_max : List (List ℕ) → Bool
end_with_max words = nat_le 2 (length words) && bytes_eq (word_at words (length words - 2)) (codes "max")

-- `query` and the words of a question, of which a listing repeats all but `max N`
abbrev pub are_question : List (List ℕ) → Bool
are_question words = bytes_eq (word_at words 0) (codes "query") && not (end_with_max words)

-- the words of such a line
abbrev pub query_words : List ℕ → Option (List (List ℕ))
query_words line = let words = words_of line in if are_question words then Some words else None

-- those of the second line
abbrev pub question_words : List (List ℕ) → Option (List (List ℕ))
question_words lines = option_and_then query_words (slice_get lines 1)
