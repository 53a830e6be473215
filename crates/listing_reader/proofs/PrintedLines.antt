-- The lines of printed rows, and their words.
use Rattle.std.proofs.Common.{◌≡◌, ◌∙◌, ◌+◌, ◌<◌, ◌≤◌, ◌^◌, ◌==◌, ◌++◌, ◌∷◌, [], All, List, ap, append_assoc, arith, codes, decimal, false, length, length-append, refl, sym, ℕ}
use Rattle.std.proofs.lemmas.List.Elements.{All-append, All-cons, All-head, All-tail}
use Rattle.std.proofs.lemmas.List.Splits.{slice_split_at, slice_split_none}
use Rattle.std.proofs.lemmas.List.Sums.{sum_by-cons}
use Rattle.header_boxes.specs.Boxes.{IsValid}
use Rattle.prefix_text.specs.Range.{range_text}
use Rattle.vpc_laws.specs.Types.{Box5, Row}
use Rattle.block_report.specs.Reports.{addresses_text, box_text}
use Rattle.block_report.specs.Words.{word}
use Rattle.query_words.specs.Events.{words_of}
use Rattle.report_reader.specs.ReadsBack.{Fits}
use Rattle.report_reader.specs.Reports.{pieces_of}
use Rattle.report_reader.proofs.Printed.{IsWord-decimal, IsWord-id, words_of-joined}
use Rattle.report_reader.proofs.ReadLines.{AreWords-box, IsWord-row, box_text-joined, box_words}
use Rattle.report_reader.proofs.ReadReports.{line_before}
use Rattle.listing_reader.specs.Listings.{row_count}
use Rattle.listing_reader.specs.Printed.{Printed, end_line, lines_from, lists_of, row_lines_from}
use Rattle.listing_reader.specs.ReadsBack.{HasNoBlank, IsOneLine, IsPrintable, IsPrintableRow}
use Rattle.listing_reader.proofs.CutLemmas.{slice_split-separator}

-- ---- texts of lines

-- a row's line without its newline
abbrev pub row_text : ℕ → List ℕ → Row (List ℕ) → List ℕ
row_text n id row = codes "row" ++ word (decimal n) ++ word id ++ word row.word ++ word (box_text row.part)

abbrev pub row_texts : ℕ → List ℕ → List (Row (List ℕ)) → List (List ℕ)
row_texts n id [] = []
row_texts n id (row ∷ rows) = row_text n id row ∷ row_texts (n + 1) id rows

-- those of all starts
abbrev pub texts_from : ℕ → List Printed → List (List ℕ)
texts_from n [] = []
texts_from n (p ∷ printed) = row_texts n p.origin.id p.rows ++ texts_from (n + length p.rows) printed

-- the last line
abbrev pub end_text : ℕ → List ℕ
end_text count = codes "end" ++ word (decimal count)

pub length-row_texts : (n : ℕ) (id : List ℕ) (rows : List (Row (List ℕ))) → length (row_texts n id rows) ≡ length rows
length-row_texts n id [] = refl
length-row_texts n id (row ∷ rows) = omega (arith, length-row_texts (n + 1) id rows)

pub length-texts_from : (n : ℕ) (printed : List Printed) → length (texts_from n printed) ≡ row_count (lists_of printed)
length-texts_from n [] = refl
length-texts_from n (p ∷ printed) =
    omega (arith, length-append (row_texts n p.origin.id p.rows) (texts_from (n + length p.rows) printed), length-row_texts n p.origin.id p.rows, length-texts_from (n + length p.rows) printed, sum_by-cons length p.rows (lists_of printed))

-- ---- words

words_of-word : (before own : List ℕ) → words_of (before ++ word own) ≡ words_of before ++ words_of own
words_of-word before own = slice_split-separator (λ (c : ℕ). c == 32) before own 32 refl

words_of-own : (own : List ℕ) → HasNoBlank own → words_of own ≡ own ∷ []
words_of-own own none = slice_split_none (λ (c : ℕ). c == 32) own none

words_of-box_text : (b : Box5) → IsValid b → Fits b → words_of (box_text b) ≡ box_words b
words_of-box_text b valid fits =
    let are = AreWords-box b valid fits in
    ap words_of (box_text-joined b) ∙ words_of-joined (range_text b.proto) (addresses_text b.src ∷ addresses_text b.dst ∷ range_text b.p ∷ range_text b.q ∷ []) are.0 are.1

five_words : (name number id told box : List ℕ) (sides : List (List ℕ)) → words_of name ≡ name ∷ [] → words_of number ≡ number ∷ [] → words_of id ≡ id ∷ [] → words_of box ≡ sides
    → words_of ((((name ++ word number) ++ word id) ++ word told) ++ word box) ≡ name ∷ number ∷ id ∷ (words_of told ++ sides)
five_words name number id told box sides name_is number_is id_is box_is =
    words_of-word (((name ++ word number) ++ word id) ++ word told) box
    ∙ (ap (λ (w : List (List ℕ)). w ++ words_of box) (words_of-word ((name ++ word number) ++ word id) told)
    ∙ (ap (λ (w : List (List ℕ)). (w ++ words_of told) ++ words_of box) (words_of-word (name ++ word number) id)
    ∙ (ap (λ (w : List (List ℕ)). ((w ++ words_of id) ++ words_of told) ++ words_of box) (words_of-word name number)
    ∙ (ap (λ (w : List (List ℕ)). (((w ++ words_of number) ++ words_of id) ++ words_of told) ++ words_of box) name_is
    ∙ (ap (λ (w : List (List ℕ)). ((((name ∷ []) ++ w) ++ words_of id) ++ words_of told) ++ words_of box) number_is
    ∙ (ap (λ (w : List (List ℕ)). (((name ∷ number ∷ []) ++ w) ++ words_of told) ++ words_of box) id_is
    ∙ ap (λ (w : List (List ℕ)). (name ∷ number ∷ id ∷ words_of told) ++ w) box_is))))))

pub words_of-row_text : (n : ℕ) (id : List ℕ) (boxes : List Box5) (row : Row (List ℕ)) → n < 10 ^ 10 → HasNoBlank id → IsPrintableRow boxes row
    → words_of (row_text n id row) ≡ codes "row" ∷ decimal n ∷ id ∷ (words_of row.word ++ box_words row.part)
words_of-row_text n id boxes row short id_word h =
    let number = IsWord-decimal n short in
    five_words (codes "row") (decimal n) id row.word (box_text row.part) (box_words row.part) refl (words_of-own (decimal n) number.no_blank) (words_of-own id id_word)
    (words_of-box_text row.part h.valid h.fits)

pub words_of-end_text : (count : ℕ) → count < 10 ^ 10 → words_of (end_text count) ≡ codes "end" ∷ decimal count ∷ []
words_of-end_text count short =
    let number = IsWord-decimal count short in
    words_of-word (codes "end") (decimal count) ∙ ap (λ (w : List (List ℕ)). codes "end" ∷ w) (words_of-own (decimal count) number.no_blank)

-- ---- lines

one_line_more : (before own : List ℕ) → IsOneLine before → IsOneLine own → IsOneLine (before ++ word own)
one_line_more before own first second =
    let apart = λ (c : ℕ). (c == 10) ≡ false in
    All-append apart before (word own) first (All-cons apart 32 own refl second)

one_line-box_text : (b : Box5) → IsValid b → Fits b → IsOneLine (box_text b)
one_line-box_text b valid fits =
    let are = AreWords-box b valid fits in
    let two = range_text b.proto ++ word (addresses_text b.src) in
    let three = two ++ word (addresses_text b.dst) in
    let four = three ++ word (range_text b.p) in
    one_line_more four (range_text b.q)
    (one_line_more three (range_text b.p)
    (one_line_more two (addresses_text b.dst) (one_line_more (range_text b.proto) (addresses_text b.src) are.0.no_newline are.1.0.no_newline) are.1.1.0.no_newline)
    are.1.1.1.0.no_newline)
    are.1.1.1.1.0.no_newline

one_line-row_text : (n : ℕ) (id : List ℕ) (boxes : List Box5) (row : Row (List ℕ)) → n < 10 ^ 10 → IsOneLine id → IsPrintableRow boxes row → IsOneLine (row_text n id row)
one_line-row_text n id boxes row short id_line h =
    let number = IsWord-decimal n short in
    let two = codes "row" ++ word (decimal n) in
    let three = two ++ word id in
    let four = three ++ word row.word in
    one_line_more four (box_text row.part)
    (one_line_more three row.word (one_line_more two id (one_line_more (codes "row") (decimal n) IsWord-row.no_newline number.no_newline) id_line) h.told)
    (one_line-box_text row.part h.valid h.fits)

one_line-end_text : (count : ℕ) → count < 10 ^ 10 → IsOneLine (end_text count)
one_line-end_text count short =
    let name = IsWord-id (codes "end") refl in
    let number = IsWord-decimal count short in
    one_line_more (codes "end") (decimal count) name.no_newline number.no_newline

pub pieces_of-line : (line rest : List ℕ) → IsOneLine line → pieces_of (line ++ 10 ∷ rest) ≡ line ∷ pieces_of rest
pieces_of-line line rest one = slice_split_at _ line 10 rest one refl

pieces_of-rows : (n : ℕ) (id : List ℕ) (boxes : List Box5) (rows : List (Row (List ℕ))) (rest : List ℕ) → n + length rows ≤ 20001 → IsOneLine id → All (IsPrintableRow boxes) rows
    → pieces_of (row_lines_from n id rows ++ rest) ≡ row_texts n id rows ++ pieces_of rest
pieces_of-rows n id boxes [] rest few id_line h = refl
pieces_of-rows n id boxes (row ∷ rows) rest few id_line h =
    let first = All-head (IsPrintableRow boxes) row rows h in
    let others = All-tail (IsPrintableRow boxes) row rows h in
    let line = row_text n id row in
    let more = row_lines_from (n + 1) id rows in
    ap pieces_of (line_before line more rest)
    ∙ (pieces_of-line line (more ++ rest) (one_line-row_text n id boxes row (omega (arith, few)) id_line first)
    ∙ ap (λ (lines : List (List ℕ)). line ∷ lines) (pieces_of-rows (n + 1) id boxes rows rest (omega (arith, few)) id_line others))

pieces_of-lists : (n : ℕ) (printed : List Printed) (rest : List ℕ) → n + row_count (lists_of printed) ≤ 20001 → All IsPrintable printed
    → pieces_of (lines_from n printed ++ rest) ≡ texts_from n printed ++ pieces_of rest
pieces_of-lists n [] rest few h = refl
pieces_of-lists n (p ∷ printed) rest few h =
    let first = All-head IsPrintable p printed h in
    let others = All-tail IsPrintable p printed h in
    let own = row_lines_from n p.origin.id p.rows in
    let more = lines_from (n + length p.rows) printed in
    let texts = row_texts n p.origin.id p.rows in
    let count = sum_by-cons length p.rows (lists_of printed) in
    ap pieces_of (append_assoc own more rest)
    ∙ (pieces_of-rows n p.origin.id p.origin.boxes p.rows (more ++ rest) (omega (arith, few, count)) first.id_line first.rows
    ∙ (ap (λ (lines : List (List ℕ)). texts ++ lines) (pieces_of-lists (n + length p.rows) printed rest (omega (arith, few, count)) others)
    ∙ sym (append_assoc texts (texts_from (n + length p.rows) printed) (pieces_of rest))))

pieces_of-end_line : (count : ℕ) → count < 10 ^ 10 → pieces_of (end_line count) ≡ end_text count ∷ [] ∷ []
pieces_of-end_line count short = pieces_of-line (end_text count) [] (one_line-end_text count short)

-- all lines, and nothing after the last newline
pub pieces_of-printed : (printed : List Printed) (count : ℕ) → row_count (lists_of printed) ≤ 20000 → count < 10 ^ 10 → All IsPrintable printed
    → pieces_of (lines_from 1 printed ++ end_line count) ≡ (texts_from 1 printed ++ end_text count ∷ []) ++ [] ∷ []
pieces_of-printed printed count few short h =
    pieces_of-lists 1 printed (end_line count) (omega (arith, few)) h
    ∙ (ap (λ (lines : List (List ℕ)). texts_from 1 printed ++ lines) (pieces_of-end_line count short) ∙ sym (append_assoc (texts_from 1 printed) (end_text count ∷ []) ([] ∷ [])))
