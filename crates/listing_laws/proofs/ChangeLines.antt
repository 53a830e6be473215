-- The lines that `diff` prints, and their ids.
use Rattle.std.proofs.Common.{List, None, Option, Some, [], ap, arith, codes, length, map, refl, sym, true, ℕ, ◌++◌, ◌+◌, ◌∙◌, ◌∷◌, ◌≡◌}
use Rattle.vpc_base.proofs.Lemmas.{length-map}
use Rattle.listing_laws.specs.Terms.{Barrier, Change, ChangedEnd, HasTypedRows, Printed, lines_from, lists_of, phase_text, row_count, stop_text, told_lines_from, word}
use Rattle.change_report.specs.Terms.{ChangeRows, Comparison, barrier_text, change_text, changed_id, id_or, lines_at, row_line, row_lines_from, start_id}
use Rattle.journey_changes.specs.declared.changes.Change.TheVariants as changes
use Rattle.journey_changes.specs.declared.fates.Barrier.TheVariants as barriers
use Rattle.listing_reader.specs.Listings as listings
use Rattle.listing_reader.specs.Printed as lines
use Rattle.vpc_laws.specs.Types.{Description, End, Row}
use Rattle.vpc_model.specs.Terms.{end_id, is_id}
use Rattle.diff_check.specs.Diffs.{asked_from}
use Rattle.listing_laws.proofs.ShortWords.{IsShortWord, IsShortWord-nil}
use Rattle.listing_laws.proofs.Listings.{printed_at, same_count}
use Rattle.listing_laws.proofs.Shown.{all_shown}
use Rattle.listing_laws.proofs.StopTexts.{IsPiece, IsShortLine, end_line, id_piece, line_word, phase_line, stop_line}
use Rattle.listing_laws.proofs.Typing.{IsShortWord-end_id}

-- the start of rows
abbrev pub start_of : ChangeRows → ChangedEnd
start_of t = t.start

-- what a change is told as, for a start
abbrev pub text_at : Comparison → ChangedEnd → Change → List ℕ
text_at c start change = change_text c.before c.after (start_id c start) change

-- rows with these texts
abbrev pub rows_of : Comparison → ChangeRows → List (Row (List ℕ))
rows_of c t = all_shown (text_at c t.start) t.rows

abbrev pub printed_from : Comparison → List (ℕ × ℕ) → ChangeRows → Printed
printed_from c targets t = printed_at start_of (asked_from c targets) (rows_of c) t

-- ---- their lines

row_lines : (before after : Description) (n : ℕ) (id : List ℕ) (rows : List (Row Change))
    → row_lines_from before after n id rows ≡ lines.row_lines_from n id (all_shown (change_text before after id) rows)
row_lines before after n id [] = refl
row_lines before after n id (row ∷ rows) =
    ap (λ (text : List ℕ). row_line before after n id row ++ text) (row_lines before after (n + 1) id rows)

pub told_lines : (c : Comparison) (targets : List (ℕ × ℕ)) (n : ℕ) (told : List ChangeRows)
    → told_lines_from (lines_at c) n told ≡ lines_from n (map (printed_from c targets) told)
told_lines c targets n [] = refl
told_lines c targets n (t ∷ told) =
    let size : length t.rows ≡ length (rows_of c t) = sym (length-map t.rows _) in
    ap (λ (text : List ℕ). text ++ told_lines_from (lines_at c) (n + length t.rows) told) (row_lines c.before c.after n (start_id c t.start) t.rows)
    ∙ (ap (λ (text : List ℕ). lines.row_lines_from n (start_id c t.start) (rows_of c t) ++ text)
    (told_lines c targets (n + length t.rows) told)
    ∙ ap (λ (k : ℕ). lines.row_lines_from n (start_id c t.start) (rows_of c t) ++ lines_from (n + k)
    (map (printed_from c targets) told)) size)

pub told_count : (c : Comparison) (targets : List (ℕ × ℕ)) (told : List ChangeRows)
    → listings.row_count (lists_of (map (printed_from c targets) told)) ≡ row_count told
told_count c targets told = same_count start_of (asked_from c targets) (rows_of c) (λ t. length t.rows) (λ t. length-map t.rows _) told

-- ---- ids and texts

word_or : (d : Description) (end : Option End) (other : List ℕ) → HasTypedRows d → IsShortWord other → IsShortWord (id_or d end other)
word_or d None other typed word = word
word_or d (Some e) other typed word = IsShortWord-end_id d e typed.interfaces typed.fars

pub IsShortWord-changed_id : (before after : Description) (e : ChangedEnd) → HasTypedRows before → HasTypedRows after
    → IsShortWord (changed_id before after e)
IsShortWord-changed_id before after e first second =
    word_or before e.before (id_or after e.after []) first (word_or after e.after [] second IsShortWord-nil)

barrier_line : (d : Description) (id : List ℕ) (barrier : Barrier) → HasTypedRows d → IsPiece id
    → IsShortLine 1603 (barrier_text d id barrier)
barrier_line d id (barriers.Stopped phase s) typed piece =
    line_word 400 1202 1603 (phase_text phase) (stop_text d s) (phase_line phase) (stop_line d typed s) (omega arith)
barrier_line d id barriers.Absent typed piece =
    line_word 1202 400 1603 (codes "request Absent" ++ word id) (codes "-")
    (line_word 801 400 1202 (codes "request Absent") id
    (line_word 400 400 801 (codes "request") (codes "Absent") (id_piece (codes "request") refl) (id_piece (codes "Absent") refl)
    (omega arith))
    piece (omega arith)) (id_piece (codes "-") refl) (omega arith)

-- what changes, an end and what keeps requests from it
change_words : (name id barrier : List ℕ) → is_id name ≡ true → IsPiece id → IsShortLine 1603 barrier
    → IsShortLine 2405 (name ++ word id ++ word barrier)
change_words name id barrier named piece line =
    line_word 801 1603 2405 (name ++ word id) barrier (line_word 400 400 801 name id (id_piece name named) piece (omega arith)) line
    (omega arith)

pub change_line : (before after : Description) (id : List ℕ) (change : Change) → HasTypedRows before → HasTypedRows after → IsPiece id
    → IsShortLine 2405 (change_text before after id change)
change_line before after id (changes.Opened e barrier) first second piece =
    change_words (codes "opened") (end_id after e) (barrier_text before id barrier) refl (end_line after second e)
    (barrier_line before id barrier first piece)
change_line before after id (changes.Closed e barrier) first second piece =
    change_words (codes "closed") (end_id before e) (barrier_text after id barrier) refl (end_line before first e)
    (barrier_line after id barrier second piece)
change_line before after id (changes.Moved e f) first second piece =
    line_word 801 400 2405 (codes "moved" ++ word (end_id before e)) (end_id after f)
    (line_word 400 400 801 (codes "moved") (end_id before e) (id_piece (codes "moved") refl) (end_line before first e) (omega arith))
    (end_line after second f) (omega arith)
