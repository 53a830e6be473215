-- Printed rows read as what they were.
use Rattle.std.proofs.Common.{All, AllPairs, Bool, List, None, Ok, Option, Some, [], ap, append_assoc, arith, bytes_eq, codes, decimal, drop, false, get_or, length, nat_le, refl, suc, sym, take, true, ℕ, ◌&&◌, ◌++◌, ◌+◌, ◌-◌, ◌<◌, ◌==◌, ◌^◌, ◌∙◌, ◌∷◌, ◌≡◌, ◌≢◌, ◌≤◌}
use Rattle.vpc_base.proofs.Lemmas.{All-head, All-tail, AllPairs-tail, and_right, bytes_self, cond-false, cond-true, drop_at, false_from_ne_true, le-ltb, same_bytes, sum_by-cons}
use Rattle.prefix_text.specs.Range.{range_text}
use Rattle.vpc_laws.specs.Types.{Box5, Row}
use Rattle.block_report.specs.Reports.{addresses_text}
use Rattle.query_words.specs.Events.{words_of}
use Rattle.report_reader.specs.Lines.{is_end_line}
use Rattle.report_reader.specs.Reports.{is_ended, lines_of, pieces_of, row_limit}
use Rattle.report_reader.proofs.ReadLines.{box_words}
use Rattle.report_reader.proofs.ReadReports.{is_ended-ended, lines_of-ended}
use Rattle.report_reader.proofs.ReadWords.{box_of-texts}
use Rattle.listing_reader.specs.Terms.{ArePrintable, HasNoBlank, IsOneLine, IsPrintable, IsPrintableRow, Origin, Printed, asked_part, end_after, end_line, is_row, lines_from, lists_at, lists_before, lists_in, lists_of, origins_of, row_before, row_count, row_of, row_with, rows_at}
use Rattle.listing_reader.proofs.CutLemmas.{some_parts}
use Rattle.listing_reader.proofs.ListLemmas.{finished}
use Rattle.listing_reader.proofs.PrintedLines.{end_text, length-row_texts, length-texts_from, pieces_of-line, pieces_of-printed, row_text, row_texts, texts_from, words_of-end_text, words_of-row_text}
use Rattle.listing_reader.proofs.RowCuts.{row_of-cut, row_of-no_row}

-- ---- a line

-- a row of the start
row_of-row_text : (origin : Origin) (n : ℕ) (row : Row (List ℕ)) → n < 10 ^ 10 → HasNoBlank origin.id → IsPrintableRow origin.boxes row
    → row_of origin n (words_of (row_text n origin.id row)) ≡ Some row
row_of-row_text origin n row short id_word h =
    let b = row.part in
    row_of-cut origin n (words_of (row_text n origin.id row)) row.word (range_text b.proto) (addresses_text b.src) (addresses_text b.dst) (range_text b.p) (range_text b.q)
    (words_of-row_text n origin.id origin.boxes row short id_word h)
    ∙ ap (row_with row.word) (ap (asked_part origin.boxes) (box_of-texts b h.valid h.fits) ∙ cond-true _ _ _ h.asked)

other_start : (m n : ℕ) (own id : List ℕ) (more : List (List ℕ)) → own ≢ id → is_row m own (codes "row" ∷ decimal n ∷ id ∷ more) ≡ false
other_start m n own id more other =
    let apart : bytes_eq id own ≡ false = false_from_ne_true _ (λ same. other (sym (same_bytes id own same))) in
    and_right (nat_le 9 (length (codes "row" ∷ decimal n ∷ id ∷ more))) (bytes_eq (decimal n) (decimal m) && bytes_eq id own)
    (and_right (bytes_eq (decimal n) (decimal m)) (bytes_eq id own) apart)

-- a row of another start
row_of-other : (origin : Origin) (m n : ℕ) (id : List ℕ) (boxes : List Box5) (row : Row (List ℕ)) → n < 10 ^ 10 → HasNoBlank id → origin.id ≢ id → IsPrintableRow boxes row
    → row_of origin m (words_of (row_text n id row)) ≡ None
row_of-other origin m n id boxes row short id_word other h =
    row_of-no_row origin m (words_of (row_text n id row))
    (ap (is_row m origin.id) (words_of-row_text n id boxes row short id_word h) ∙ other_start m n origin.id id (words_of row.word ++ box_words row.part) other)

-- the last line
row_of-end_text : (origin : Origin) (m count : ℕ) → count < 10 ^ 10 → row_of origin m (words_of (end_text count)) ≡ None
row_of-end_text origin m count short = row_of-no_row origin m (words_of (end_text count)) (ap (is_row m origin.id) (words_of-end_text count short))

-- ---- the rows of a start

rows_at-own : (origin : Origin) (n past : ℕ) (rows : List (Row (List ℕ))) (rest : List (List ℕ)) → past ≡ n + length rows → past ≤ 20001 → HasNoBlank origin.id → All (IsPrintableRow origin.boxes) rows
    → rows_at origin past rest ≡ [] → rows_at origin n (row_texts n origin.id rows ++ rest) ≡ rows
rows_at-own origin n past [] rest is few id_word h none =
    let same : n ≡ past = omega (arith, is) in
    ap (λ (k : ℕ). rows_at origin k rest) same ∙ none
rows_at-own origin n past (row ∷ rows) rest is few id_word h none =
    let first = All-head (IsPrintableRow origin.boxes) row rows h in
    let others = All-tail (IsPrintableRow origin.boxes) row rows h in
    ap (λ (o : Option (Row (List ℕ))). row_before o (rows_at origin (n + 1) (row_texts (n + 1) origin.id rows ++ rest))) (row_of-row_text origin n row (omega (arith, is, few)) id_word first)
    ∙ ap (λ (rs : List (Row (List ℕ))). row ∷ rs) (rows_at-own origin (n + 1) past rows rest (omega (arith, is)) few id_word others none)

rows_at-other : (origin : Origin) (m n : ℕ) (id : List ℕ) (boxes : List Box5) (rows : List (Row (List ℕ))) (rest : List (List ℕ)) → n + length rows ≤ 20001 → HasNoBlank id → origin.id ≢ id
    → All (IsPrintableRow boxes) rows → rows_at origin m rest ≡ [] → rows_at origin m (row_texts n id rows ++ rest) ≡ []
rows_at-other origin m n id boxes [] rest few id_word other h none = none
rows_at-other origin m n id boxes (row ∷ rows) rest few id_word other h none =
    ap (λ (o : Option (Row (List ℕ))). row_before o (rows_at origin (m + 1) (row_texts (n + 1) id rows ++ rest)))
    (row_of-other origin m n id boxes row (omega (arith, few)) id_word other (All-head (IsPrintableRow boxes) row rows h))

-- what follows the rows of a start is none of its own
rows_at-others : (origin : Origin) (m n : ℕ) (printed : List Printed) (count : ℕ) → n + row_count (lists_of printed) ≤ 20001 → count < 10 ^ 10 → All IsPrintable printed → All (λ p. origin.id ≢ p.origin.id) printed
    → rows_at origin m (texts_from n printed ++ end_text count ∷ []) ≡ []
rows_at-others origin m n [] count few short h other = ap (λ (o : Option (Row (List ℕ))). row_before o (rows_at origin (m + 1) [])) (row_of-end_text origin m count short)
rows_at-others origin m n (p ∷ printed) count few short h other =
    let first = All-head IsPrintable p printed h in
    let own = row_texts n p.origin.id p.rows in
    let others = texts_from (n + length p.rows) printed in
    let sum = sum_by-cons length p.rows (lists_of printed) in
    ap (rows_at origin m) (append_assoc own others (end_text count ∷ []))
    ∙ rows_at-other origin m n p.origin.id p.origin.boxes p.rows (others ++ end_text count ∷ []) (omega (arith, few, sum)) first.id_word (All-head (λ (q : Printed). origin.id ≢ q.origin.id) p printed other) first.rows
    (rows_at-others origin m (n + length p.rows) printed count (omega (arith, few, sum)) short (All-tail IsPrintable p printed h) (All-tail (λ (q : Printed). origin.id ≢ q.origin.id) p printed other))

-- ---- all starts

pairs_head : {X : Type 0} (R : X → X → Type 0) (x : X) (xs : List X) → AllPairs R (x ∷ xs) → All (R x) xs
pairs_head R x xs pairs = λ k d inside. pairs 0 (suc k) d (omega arith) (omega (arith, inside))

lists_at-printed : (n : ℕ) (printed : List Printed) (count : ℕ) → n + row_count (lists_of printed) ≤ 20001 → count < 10 ^ 10 → All IsPrintable printed → AllPairs (λ p q. p.origin.id ≢ q.origin.id) printed
    → lists_at (origins_of printed) n (texts_from n printed ++ end_text count ∷ []) ≡ lists_of printed
lists_at-printed n [] count few short h apart = refl
lists_at-printed n (p ∷ printed) count few short h apart =
    let origin = p.origin in
    let first = All-head IsPrintable p printed h in
    let others = All-tail IsPrintable p printed h in
    let sum = sum_by-cons length p.rows (lists_of printed) in
    let own = row_texts n origin.id p.rows in
    let past = n + length p.rows in
    let rest = texts_from past printed ++ end_text count ∷ [] in
    let origins = origins_of printed in
    let none = rows_at-others origin past past printed count (omega (arith, few, sum)) short others (pairs_head (λ (a b : Printed). a.origin.id ≢ b.origin.id) p printed apart) in
    ap (lists_at (origins_of (p ∷ printed)) n) (append_assoc own (texts_from past printed) (end_text count ∷ []))
    ∙ (ap (λ (rows : List (Row (List ℕ))). rows ∷ lists_at origins (n + length rows) (drop (length rows) (own ++ rest))) (rows_at-own origin n past p.rows rest refl (omega (arith, few, sum)) first.id_word first.rows none)
    ∙ (ap (λ (lines : List (List ℕ)). p.rows ∷ lists_at origins past lines) (drop_at own rest (length p.rows) (length-row_texts n origin.id p.rows))
    ∙ ap (λ (lists : List (List (Row (List ℕ)))). p.rows ∷ lists) (lists_at-printed past printed count (omega (arith, few, sum)) short others (AllPairs-tail (λ (a b : Printed). a.origin.id ≢ b.origin.id) p printed apart))))

-- ---- the whole

end_after-end_text : (count : ℕ) → count < 10 ^ 10 → end_after count true (end_text count ∷ []) ≡ Ok tt
end_after-end_text count short =
    let is : is_end_line count (words_of (end_text count)) ≡ true = ap (is_end_line count) (words_of-end_text count short) ∙ bytes_self (decimal count) in
    cond-true _ _ _ is

lists_in-printed : (printed : List Printed) → ArePrintable printed
    → lists_in (origins_of printed) true (texts_from 1 printed ++ end_text (row_count (lists_of printed)) ∷ []) ≡ Ok (lists_of printed)
lists_in-printed printed h =
    let lists = lists_of printed in
    let count = row_count lists in
    let texts = texts_from 1 printed in
    let end = end_text count ∷ [] in
    let few : count ≤ 20000 = h.few in
    ap (finished true (texts ++ end)) (lists_at-printed 1 printed count (omega (arith, few)) (omega (arith, few)) h.each h.apart)
    ∙ (cond-false _ _ _ (le-ltb row_limit count few)
    ∙ (ap (λ (lines : List (List ℕ)). lists_before lists (end_after count true lines)) (drop_at texts end count (length-texts_from 1 printed))
    ∙ ap (lists_before lists) (end_after-end_text count (omega (arith, few)))))

pub printed_lists_read_back : (printed : List Printed) → ArePrintable printed
    → (let pieces = pieces_of (lines_from 1 printed ++ end_line (row_count (lists_of printed))) in lists_in (origins_of printed) (is_ended pieces) (lines_of pieces) ≡ Ok (lists_of printed))
printed_lists_read_back printed h =
    let origins = origins_of printed in
    let count = row_count (lists_of printed) in
    let texts = texts_from 1 printed ++ end_text count ∷ [] in
    let few : count ≤ 20000 = h.few in
    ap (λ (pieces : List (List ℕ)). lists_in origins (is_ended pieces) (lines_of pieces)) (pieces_of-printed printed count few (omega (arith, few)) h.each)
    ∙ (ap (λ (lines : List (List ℕ)). lists_in origins (is_ended (texts ++ [] ∷ [])) lines) (lines_of-ended texts)
    ∙ (ap (λ (ended : Bool). lists_in origins ended texts) (is_ended-ended texts) ∙ lists_in-printed printed h))

-- ---- two lines before others

two_more : (n : ℕ) (first second : List ℕ) (pieces : List (List ℕ)) → drop 2 (take (n + 2) (first ∷ second ∷ pieces)) ≡ take n pieces
two_more n first second pieces =
    let two : n + 2 ≡ suc (suc n) = omega arith in
    ap (λ (m : ℕ). drop 2 (take m (first ∷ second ∷ pieces))) two

piece_at : (n : ℕ) (first second : List ℕ) (pieces : List (List ℕ)) → get_or (first ∷ second ∷ pieces) (n + 2) [] ≡ get_or pieces n []
piece_at n first second pieces =
    let two : n + 2 ≡ suc (suc n) = omega arith in
    ap (λ (m : ℕ). get_or (first ∷ second ∷ pieces) m []) two

after_two : (first second : List ℕ) (pieces : List (List ℕ)) → 0 < length pieces
    → (drop 2 (lines_of (first ∷ second ∷ pieces)) ≡ lines_of pieces) × (is_ended (first ∷ second ∷ pieces) ≡ is_ended pieces)
after_two first second pieces some =
    let size : length (first ∷ second ∷ pieces) - 1 ≡ length pieces - 1 + 2 = omega (arith, some) in (
      ap (λ (n : ℕ). drop 2 (take n (first ∷ second ∷ pieces))) size ∙ two_more (length pieces - 1) first second pieces,
      ap (λ (n : ℕ). length (get_or (first ∷ second ∷ pieces) n []) == 0) size ∙ ap (λ (piece : List ℕ). length piece == 0) (piece_at (length pieces - 1) first second pieces),
    )

pub lines_follow_two : (first second text : List ℕ) → IsOneLine first → IsOneLine second
    → (let all = pieces_of (first ++ 10 ∷ (second ++ 10 ∷ text)) in
    let pieces = pieces_of text in
    (drop 2 (lines_of all) ≡ lines_of pieces) × (is_ended all ≡ is_ended pieces))
lines_follow_two first second text one two =
    let split : pieces_of (first ++ 10 ∷ (second ++ 10 ∷ text)) ≡ first ∷ second ∷ pieces_of text =
    pieces_of-line first (second ++ 10 ∷ text) one ∙ ap (λ (ps : List (List ℕ)). first ∷ ps) (pieces_of-line second text two) in
    let both = after_two first second (pieces_of text) (some_parts (λ (c : ℕ). c == 10) text) in
    (ap (λ (ps : List (List ℕ)). drop 2 (lines_of ps)) split ∙ both.0, ap is_ended split ∙ both.1)
