-- Printed reports read as what they were.
use Rattle.std.proofs.Common.{◌≡◌, ◌∙◌, ◌+◌, ◌-◌, ◌≤◌, ◌==◌, ◌++◌, ◌∷◌, [], All, List, Ok, Option, Result, Some, ap, append_assoc, arith, codes, decimal, drop, get_or, length, length-append, ok_or, refl, sym, take_at, true, ℕ}
use Rattle.std.proofs.Math.Seq.{get_or-append_seam}
use Rattle.std.proofs.lemmas.List.Elements.{All-head, All-tail}
use Rattle.vpc_laws.specs.Types.{Box5, Description, End, Row, StopText}
use Rattle.header_boxes.specs.Boxes.{IsValid}
use Rattle.vpc_model.specs.Accepted.{IsAccepted}
use Rattle.vpc_model.specs.Id.{is_id}
use Rattle.vpc_model.specs.Told.{end_id}
use Rattle.block_report.specs.Reports.{box_line, ends_line, report_of, report_text, row_lines_from}
use Rattle.query_words.specs.Events.{words_of}
use Rattle.report_reader.specs.declared.report.Report.{Report}
use Rattle.report_reader.specs.declared.report.ReportFault.{ReportFault}
use Rattle.report_reader.specs.declared.report.ReportFault.TheVariants as faults
use Rattle.report_reader.specs.Lines.{query_of, sides_of, version_of}
use Rattle.report_reader.specs.ReadsBack.{Fits, IsPrintable, Listed, listed_report}
use Rattle.report_reader.specs.declared.lines.Version.{Version}
use Rattle.report_reader.specs.declared.lines.Version.TheVariants as versions
use Rattle.report_reader.specs.declared.report.Shape.{Shape}
use Rattle.report_reader.specs.declared.report.Shape.TheVariants as shapes
use Rattle.report_reader.specs.Reports.{◌>>=◌, is_ended, line_as, lines_of, pieces_of, report_in, report_of_pieces, report_of_text, row_before, rows_from, shape_from}
use Rattle.report_reader.proofs.Printed.{AreWords, IsWord-decimal, IsWord-id, joined, pieces_of-line, words_of-joined}
use Rattle.report_reader.proofs.ReadEnds.{ends_named-end_ids}
use Rattle.report_reader.proofs.RowsOf.{IsRowOf, rows_of}
use Rattle.report_reader.proofs.ReadLines.{AreWords-box, AreWords-row, IsWord-row, box_line-joined, box_words, next_row-end, next_row-row, row_line-joined, row_words, sides_of-words}

-- ---- rows

-- the lines of rows
abbrev row_texts : ℕ → List (Row StopText) → List (List ℕ)
row_texts count [] = []
row_texts count (row ∷ rows) = joined (codes "row") (row_words (count + 1) row) ∷ row_texts (count + 1) rows

pub line_before : (line rows rest : List ℕ) → ((line ++ 10 ∷ []) ++ rows) ++ rest ≡ line ++ 10 ∷ (rows ++ rest)
line_before line rows rest = simp append_assoc

pieces_of-rows : (whole : Box5) (count : ℕ) (rows : List (Row StopText)) (rest : List ℕ) → count + length rows ≤ 20000 → Fits whole → All (IsRowOf whole) rows
    → pieces_of (row_lines_from (count + 1) rows ++ rest) ≡ row_texts count rows ++ pieces_of rest
pieces_of-rows whole count [] rest few fits h = refl
pieces_of-rows whole count (row ∷ rows) rest few fits h =
    let first = All-head (IsRowOf whole) row rows h in
    let others = All-tail (IsRowOf whole) row rows h in
    let more = row_lines_from (count + 1 + 1) rows in
    let line = joined (codes "row") (row_words (count + 1) row) in
    ap (λ (text : List ℕ). pieces_of ((text ++ more) ++ rest)) (row_line-joined (count + 1) row)
    ∙ (ap pieces_of (line_before line more rest)
    ∙ (pieces_of-line (codes "row") (row_words (count + 1) row) (more ++ rest) IsWord-row (AreWords-row whole (count + 1) row (omega (arith, few)) fits first)
    ∙ ap (λ (lines : List (List ℕ)). line ∷ lines) (pieces_of-rows whole (count + 1) rows rest (omega (arith, few)) fits others)))

-- the last line
abbrev pub end_text : ℕ → List ℕ
end_text count = joined (codes "end") (decimal count ∷ [])

rows_from-texts : (whole : Box5) (count all : ℕ) (rows : List (Row StopText)) → all ≡ count + length rows → all ≤ 20000 → Fits whole → All (IsRowOf whole) rows
    → rows_from whole true count (row_texts count rows ++ end_text all ∷ []) ≡ Ok rows
rows_from-texts whole count all [] is few fits h =
    let same : all ≡ count = omega (arith, is) in
    ap (λ (n : ℕ). rows_from whole true count (end_text n ∷ [])) same
    ∙ ap (λ (r : Result (Option (Row StopText)) ReportFault). row_before r (rows_from whole true (count + 1) [])) (next_row-end whole count (omega (arith, same, few)))
rows_from-texts whole count all (row ∷ rows) is few fits h =
    let first = All-head (IsRowOf whole) row rows h in
    let others = All-tail (IsRowOf whole) row rows h in
    let rest = row_texts (count + 1) rows ++ end_text all ∷ [] in
    ap (λ (r : Result (Option (Row StopText)) ReportFault). row_before r (rows_from whole true (count + 1) rest)) (next_row-row whole count _ row (omega (arith, is, few)) fits first)
    ∙ ap (λ (r : Result (List (Row StopText)) ReportFault). row_before (Ok (Some row)) r) (rows_from-texts whole (count + 1) all rows (omega (arith, is)) few fits others)

-- ---- lines

-- lines and the nothing after the last newline
pub lines_of-ended : (lines : List (List ℕ)) → lines_of (lines ++ [] ∷ []) ≡ lines
lines_of-ended lines = take_at lines ([] ∷ []) _ (omega (arith, length-append lines ([] ∷ [])))

last_piece : (lines : List (List ℕ)) → get_or (lines ++ [] ∷ []) (length (lines ++ [] ∷ []) - 1) [] ≡ []
last_piece lines =
    let n : length (lines ++ [] ∷ []) - 1 ≡ length lines = omega (arith, length-append lines ([] ∷ [])) in
    ap (λ (k : ℕ). get_or (lines ++ [] ∷ []) k []) n ∙ get_or-append_seam lines [] [] []

pub is_ended-ended : (lines : List (List ℕ)) → is_ended (lines ++ [] ∷ []) ≡ true
is_ended-ended lines = ap (λ (piece : List ℕ). length piece == 0) (last_piece lines)

pub report_of_lines : (d : Description) (lines : List (List ℕ)) → report_of_pieces d (lines ++ [] ∷ []) ≡ report_in d lines true
report_of_lines d lines = ap (λ (ls : List (List ℕ)). report_in d ls (is_ended (lines ++ [] ∷ []))) (lines_of-ended lines) ∙ ap (report_in d lines) (is_ended-ended lines)

-- ---- the whole

abbrev pub query_words : List ℕ → List ℕ → List (List ℕ)
query_words from_id to_id = codes "from" ∷ from_id ∷ codes "to" ∷ to_id ∷ []

pub query_are_words : (from_id to_id : List ℕ) → is_id from_id ≡ true → is_id to_id ≡ true → AreWords (query_words from_id to_id)
query_are_words from_id to_id first second = (IsWord-id _ refl, (IsWord-id from_id first, (IsWord-id _ refl, (IsWord-id to_id second, tt))))

ends_text : (query from_id to to_id : List ℕ) → (((query ++ 32 ∷ from_id) ++ 32 ∷ to) ++ 32 ∷ to_id) ++ 10 ∷ [] ≡ (query ++ 32 ∷ (from_id ++ 32 ∷ (to ++ 32 ∷ to_id))) ++ 10 ∷ []
ends_text query from_id to to_id = simp append_assoc

pub ends_line-joined : (from_id to_id : List ℕ) → ends_line from_id to_id ≡ joined (codes "query") (query_words from_id to_id) ++ 10 ∷ []
ends_line-joined from_id to_id = ends_text (codes "query from") from_id (codes "to") to_id

pub parts : (version query box rows end : List ℕ) → ((version ++ 10 ∷ []) ++ (((query ++ 10 ∷ []) ++ (box ++ 10 ∷ [])) ++ rows)) ++ (end ++ 10 ∷ []) ≡ version ++ 10 ∷ (query ++ 10 ∷ (box ++ 10 ∷ (rows ++ (end ++ 10 ∷ []))))
parts version query box rows end = simp append_assoc

-- the three lines before the rows
abbrev head_lines : List ℕ → List ℕ → Box5 → List (List ℕ) → List (List ℕ)
head_lines from_id to_id sides lines =
    joined (codes "vpc-report") (codes "1" ∷ []) ∷ joined (codes "query") (query_words from_id to_id) ∷ joined (codes "box") (box_words sides) ∷ lines

report_text-parts : (from_id to_id : List ℕ) (sides : Box5) (rows : List (Row StopText))
    → report_of from_id to_id sides rows
    ≡ codes "vpc-report 1" ++ 10 ∷ (joined (codes "query") (query_words from_id to_id) ++ 10 ∷ (joined (codes "box") (box_words sides) ++ 10 ∷ (row_lines_from 1 rows ++ (end_text (length rows) ++ 10 ∷ []))))
report_text-parts from_id to_id sides rows =
    let version = codes "vpc-report 1" ++ 10 ∷ [] in
    let lines = row_lines_from 1 rows in
    let end = end_text (length rows) ++ 10 ∷ [] in
    ap (λ (query : List ℕ). (version ++ ((query ++ box_line sides) ++ lines)) ++ end) (ends_line-joined from_id to_id)
    ∙ (ap (λ (box : List ℕ). (version ++ (((joined (codes "query") (query_words from_id to_id) ++ 10 ∷ []) ++ box) ++ lines)) ++ end) (box_line-joined sides)
    ∙ parts (codes "vpc-report 1") (joined (codes "query") (query_words from_id to_id)) (joined (codes "box") (box_words sides)) lines (end_text (length rows)))

pieces_of-report : (from_id to_id : List ℕ) (sides : Box5) (rows : List (Row StopText)) → is_id from_id ≡ true → is_id to_id ≡ true → IsValid sides → Fits sides → length rows ≤ 20000 → All (IsRowOf sides) rows
    → pieces_of (report_of from_id to_id sides rows) ≡ head_lines from_id to_id sides (row_texts 0 rows ++ end_text (length rows) ∷ []) ++ [] ∷ []
pieces_of-report from_id to_id sides rows from_word to_word valid fits few h =
    let end = end_text (length rows) in
    let query = joined (codes "query") (query_words from_id to_id) in
    let box = joined (codes "box") (box_words sides) in
    let after_rows = end ++ 10 ∷ [] in
    let after_box = row_lines_from 1 rows ++ after_rows in
    ap pieces_of (report_text-parts from_id to_id sides rows)
    ∙ (pieces_of-line (codes "vpc-report") (codes "1" ∷ []) (query ++ 10 ∷ (box ++ 10 ∷ after_box)) (IsWord-id _ refl) (IsWord-id _ refl, tt)
    ∙ ap (λ (ls : List (List ℕ)). codes "vpc-report 1" ∷ ls) (pieces_of-line (codes "query") (query_words from_id to_id) (box ++ 10 ∷ after_box) (IsWord-id _ refl) (query_are_words from_id to_id from_word to_word)
    ∙ ap (λ (ls : List (List ℕ)). query ∷ ls) (pieces_of-line (codes "box") (box_words sides) after_box (IsWord-id _ refl) (AreWords-box sides valid fits)
    ∙ ap (λ (ls : List (List ℕ)). box ∷ ls) (pieces_of-rows sides 0 rows after_rows (omega (arith, few)) fits h
    ∙ (ap (λ (ls : List (List ℕ)). row_texts 0 rows ++ ls) (pieces_of-line (codes "end") (decimal (length rows) ∷ []) [] (IsWord-id _ refl) (IsWord-decimal (length rows) (omega (arith, few)), tt))
    ∙ sym (append_assoc (row_texts 0 rows) (end ∷ []) ([] ∷ [])))))))

pub line-read : {A : Type 0} (grammar : List (List ℕ) → Option A) (line : List ℕ) (number : ℕ) (ws : List (List ℕ)) (value : A) → words_of line ≡ ws → grammar ws ≡ Some value
    → ok_or (grammar (words_of line)) (faults.BadLine number) ≡ Ok value
line-read {A = A} grammar line number ws value split read =
    ap (λ (all : List (List ℕ)). ok_or (grammar all) (faults.BadLine number)) split ∙ ap (λ (o : Option A). ok_or o (faults.BadLine number)) read

abbrev report_read : Result Version ReportFault → Result (End × End) ReportFault → Result Box5 ReportFault → (Version → Box5 → Result Shape ReportFault) → Result Report ReportFault
report_read version ends sides shape = do
  version ← version
  ends ← ends
  sides ← sides
  shape ← shape version sides
  Ok (record { start = ends.0; goal = ends.1; sides = sides; shape = shape })

pub report_from : (version : Result Version ReportFault) (ends : Result (End × End) ReportFault) (sides : Result Box5 ReportFault) (shape : Version → Box5 → Result Shape ReportFault) (v : Version) (r : Report)
    → version ≡ Ok v → ends ≡ Ok (r.start, r.goal) → sides ≡ Ok r.sides → shape v r.sides ≡ Ok r.shape → report_read version ends sides shape ≡ Ok r
report_from version ends sides shape v r a_is b_is c_is d_is = rw (a_is, b_is, c_is, d_is) refl

-- rows as the boxes of a report
listed : (rows : Result (List (Row StopText)) ReportFault) (all : List (Row StopText)) → rows ≡ Ok all → rows >>= (λ rows. Ok (shapes.List rows)) ≡ Ok (shapes.List all)
listed rows all is = ap (λ (r : Result (List (Row StopText)) ReportFault). r >>= (λ rows. Ok (shapes.List rows))) is

report_in-lines : (d : Description) (r : Listed) → IsAccepted d → IsPrintable d r
    → report_in d (head_lines (end_id d r.start) (end_id d r.goal) r.sides (row_texts 0 r.rows ++ end_text (length r.rows) ∷ [])) true ≡ Ok (listed_report r)
report_in-lines d r accepted h =
    let from_id = end_id d r.start in
    let to_id = end_id d r.goal in
    let lines = head_lines from_id to_id r.sides (row_texts 0 r.rows ++ end_text (length r.rows) ∷ []) in
    let from_word = h.ids.start in
    let to_word = h.ids.goal in
    report_from (line_as version_of lines 1) (line_as (query_of d) lines 2) (line_as sides_of lines 3) (λ version sides. shape_from version sides true (drop 3 lines)) versions.First (listed_report r)
    (line-read version_of (codes "vpc-report 1") 1 (codes "vpc-report" ∷ codes "1" ∷ []) versions.First (words_of-joined (codes "vpc-report") (codes "1" ∷ []) (IsWord-id _ refl) (IsWord-id _ refl, tt)) refl)
    (line-read (query_of d) (joined (codes "query") (query_words from_id to_id)) 2 (codes "query" ∷ query_words from_id to_id) (r.start, r.goal) (words_of-joined (codes "query") (query_words from_id to_id) (IsWord-id _ refl) (query_are_words from_id to_id from_word to_word))
    (ends_named-end_ids d r.start r.goal accepted h.ends))
    (line-read sides_of (joined (codes "box") (box_words r.sides)) 3 (codes "box" ∷ box_words r.sides) r.sides (words_of-joined (codes "box") (box_words r.sides) (IsWord-id _ refl) (AreWords-box r.sides h.valid h.fits))
    (sides_of-words r.sides h.valid h.fits))
    (listed _ r.rows (rows_from-texts r.sides 0 (length r.rows) r.rows (omega arith) h.few h.fits (rows_of d r h)))

pub printed_reports_read_back : (d : Description) (r : Listed) → IsAccepted d → IsPrintable d r → report_of_text d (report_text d r.start r.goal r.sides r.rows) ≡ Ok (listed_report r)
printed_reports_read_back d r accepted h =
    let from_id = end_id d r.start in
    let to_id = end_id d r.goal in
    let lines = head_lines from_id to_id r.sides (row_texts 0 r.rows ++ end_text (length r.rows) ∷ []) in
    ap (report_of_pieces d) (pieces_of-report from_id to_id r.sides r.rows h.ids.start h.ids.goal h.valid h.fits h.few (rows_of d r h))
    ∙ (report_of_lines d lines ∙ report_in-lines d r accepted h)
