-- How long printed reports are.
use Rattle.std.proofs.Common.{◌≡◌, ◌+◌, ◌*◌, ◌≤◌, ◌<◌, ◌^◌, ◌++◌, ◌∷◌, [], All, List, arith, codes, decimal, length, length-append, lit<, suc, true, ℕ}
use Rattle.vpc_base.proofs.Lemmas.{All-head, All-tail, and_parts, leb-true, length-decimal-le}
use Rattle.header_boxes.specs.Boxes.{IsValid}
use Rattle.header_boxes.proofs.Held.{valid_if_within}
use Rattle.prefix_text.proofs.AddrLaws.{length-addr_text-le}
use Rattle.prefix_text.proofs.RangeLaws.{length-range_text-le}
use Rattle.prefix_text.specs.Terms.{addr_text, range_text}
use Rattle.vpc_laws.specs.Types.{Box5, Description, Row, StopText}
use Rattle.vpc_model.specs.Terms.{IsAccepted, end_id, is_id, name_text}
use Rattle.block_report.specs.Terms.{addresses_text, box_line, box_text, ends_line, phase_text, report_of, report_text, row_line, row_lines_from}
use Rattle.vpc_model.proofs.Names.{visible_name}
use Rattle.report_reader.specs.ReadsBack.{Fits, IsPrintable, Listed, length_limit}
use Rattle.report_reader.proofs.RowsOf.{IsRowOf, rows_of}
use Rattle.report_reader.proofs.ReadLines.{visible_phase}
use Rattle.report_reader.proofs.ReadWords.{fits-within}

-- ---- words

pub length-id-le : (id : List ℕ) → is_id id ≡ true → length id ≤ 256
length-id-le id h = leb-true (length id) 256 (and_parts _ _ (and_parts _ _ h).1).0

length-number-le : (n : ℕ) → n < 2 ^ 16 → length (decimal n) ≤ 5
length-number-le n fits = length-decimal-le 5 n (lit< tt) (omega arith) (omega arith)

pub length-addresses_text-le : (r : ℕ × ℕ) → r.0 < 2 ^ 32 → r.1 < 2 ^ 32 → length (addresses_text r) ≤ 31
length-addresses_text-le r first last =
    let a = length-addr_text-le r.0 first in
    let b = length-addr_text-le r.1 last in
    omega (arith, length-append (addr_text r.0 ++ codes "-") (addr_text r.1), length-append (addr_text r.0) (codes "-"))

-- ---- boxes

five_words : (a b c d e : List ℕ) → length a ≤ 11 → length b ≤ 31 → length c ≤ 31 → length d ≤ 11 → length e ≤ 11 → length ((((a ++ 32 ∷ b) ++ 32 ∷ c) ++ 32 ∷ d) ++ 32 ∷ e) ≤ 100
five_words a b c d e la lb lc ld le = simp length-append (omega arith)

pub length-box_text-le : (b : Box5) → IsValid b → Fits b → length (box_text b) ≤ 100
length-box_text-le b valid fits =
    five_words (range_text b.proto) (addresses_text b.src) (addresses_text b.dst) (range_text b.p) (range_text b.q)
    (length-range_text-le b.proto (omega (arith, valid.proto, fits.proto)) (omega (arith, fits.proto)))
    (length-addresses_text-le b.src (omega (arith, valid.src, fits.src)) fits.src)
    (length-addresses_text-le b.dst (omega (arith, valid.dst, fits.dst)) fits.dst)
    (length-range_text-le b.p (omega (arith, valid.p, fits.p)) fits.p)
    (length-range_text-le b.q (omega (arith, valid.q, fits.q)) fits.q)

-- ---- rows

row_of_words : (n phase name id rule box : List ℕ) → length n ≤ 5 → length phase ≤ 256 → length name ≤ 256 → length id ≤ 256 → length rule ≤ 256 → length box ≤ 100
    → length ((((codes "row" ++ 32 ∷ n) ++ 32 ∷ (phase ++ 32 ∷ ((name ++ 32 ∷ id) ++ 32 ∷ rule))) ++ 32 ∷ box) ++ 10 ∷ []) ≤ 1200
row_of_words n phase name id rule box ln lp lna li lr lb = simp length-append (omega arith)

-- a row's line has at most 1,200 bytes
length-row_line-le : (whole : Box5) (n : ℕ) (row : Row StopText) → n ≤ 20000 → Fits whole → IsRowOf whole row → length (row_line n row) ≤ 1200
length-row_line-le whole n row few fits h =
    let told = row.word in
    row_of_words (decimal n) (phase_text told.phase) (name_text told.name) told.id told.rule (box_text row.part)
    (length-number-le n (omega (arith, few)))
    (length-id-le (phase_text told.phase) (visible_phase told.phase))
    (length-id-le (name_text told.name) (visible_name told.name))
    (length-id-le told.id h.id)
    (length-id-le told.rule h.rule)
    (length-box_text-le row.part (valid_if_within row.part whole h.within) (fits-within row.part whole h.within fits))

line_more : (line lines : List ℕ) (n : ℕ) → length line ≤ 1200 → length lines ≤ n * 1200 → length (line ++ lines) ≤ suc n * 1200
line_more line lines n short few = omega (arith, length-append line lines)

length-row_lines-le : (whole : Box5) (count : ℕ) (rows : List (Row StopText)) → count + length rows ≤ 20000 → Fits whole → All (IsRowOf whole) rows
    → length (row_lines_from (count + 1) rows) ≤ length rows * 1200
length-row_lines-le whole count [] few fits h = omega arith
length-row_lines-le whole count (row ∷ rows) few fits h =
    let first = All-head (IsRowOf whole) row rows h in
    let others = All-tail (IsRowOf whole) row rows h in
    line_more (row_line (count + 1) row) (row_lines_from (count + 1 + 1) rows) (length rows)
    (length-row_line-le whole (count + 1) row (omega (arith, few)) fits first)
    (length-row_lines-le whole (count + 1) rows (omega (arith, few)) fits others)

-- ---- the other lines

query_of_ids : (from_id to_id : List ℕ) → length from_id ≤ 256 → length to_id ≤ 256 → length ((((codes "query from" ++ 32 ∷ from_id) ++ 32 ∷ codes "to") ++ 32 ∷ to_id) ++ 10 ∷ []) ≤ 600
query_of_ids from_id to_id first second = simp length-append (omega arith)

pub length-ends_line-le : (from_id to_id : List ℕ) → is_id from_id ≡ true → is_id to_id ≡ true → length (ends_line from_id to_id) ≤ 600
length-ends_line-le from_id to_id first second = query_of_ids from_id to_id (length-id-le from_id first) (length-id-le to_id second)

pub word_line : (name text : List ℕ) → length name ≤ 3 → length text ≤ 100 → length ((name ++ 32 ∷ text) ++ 10 ∷ []) ≤ 105
word_line name text ln lt = simp length-append (omega arith)

-- ---- the whole

five_parts : (version query box rows end : List ℕ) → length version ≤ 20 → length query ≤ 600 → length box ≤ 105 → length rows ≤ 24000000 → length end ≤ 105
    → length ((version ++ ((query ++ box) ++ rows)) ++ end) ≤ 24001000
five_parts version query box rows end lv lq lb lr le = simp length-append (omega arith)

length-report_of-le : (from_id to_id : List ℕ) (sides : Box5) (rows : List (Row StopText)) → is_id from_id ≡ true → is_id to_id ≡ true → IsValid sides → Fits sides → length rows ≤ 20000 → All (IsRowOf sides) rows
    → length (report_of from_id to_id sides rows) ≤ 24001000
length-report_of-le from_id to_id sides rows from_word to_word valid fits few h =
    let all = length-row_lines-le sides 0 rows (omega (arith, few)) fits h in
    let number = length-number-le (length rows) (omega (arith, few)) in
    five_parts (codes "vpc-report 1" ++ 10 ∷ []) (ends_line from_id to_id) (box_line sides) (row_lines_from 1 rows) ((codes "end" ++ 32 ∷ decimal (length rows)) ++ 10 ∷ [])
    (omega arith)
    (length-ends_line-le from_id to_id from_word to_word)
    (word_line (codes "box") (box_text sides) (omega arith) (length-box_text-le sides valid fits))
    (omega (arith, all, few))
    (word_line (codes "end") (decimal (length rows)) (omega arith) (omega (arith, number)))

pub printed_reports_fit : (d : Description) (r : Listed) → IsAccepted d → IsPrintable d r → length (report_text d r.start r.goal r.sides r.rows) ≤ length_limit
printed_reports_fit d r accepted h =
    let most = length-report_of-le (end_id d r.start) (end_id d r.goal) r.sides r.rows h.ids.start h.ids.goal h.valid h.fits h.few (rows_of d r h) in
    omega (arith, most)
