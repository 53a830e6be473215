-- The lines of a printed report read as what they were.
use Rattle.std.proofs.Common.{◌≡◌, ◌∙◌, ◌+◌, ◌<◌, ◌≤◌, ◌++◌, ◌∷◌, [], Bool, List, None, Ok, Option, Some, ap, append_assoc, arith, codes, decimal, if◌then◌else◌, lt-ltb, refl, true, ℕ}
use Rattle.std.proofs.lemmas.Bool.{cond-true}
use Rattle.vpc_base.proofs.Bytes.{bytes_self}
use Rattle.header_boxes.specs.Boxes.{IsValid}
use Rattle.header_boxes.proofs.Held.{valid_if_within}
use Rattle.prefix_text.specs.Range.{range_text}
use Rattle.vpc_laws.specs.Types.{Box5, Phase, Row, StopText}
use Rattle.vpc_model.specs.declared.outcomes.Phase.TheVariants as phases
use Rattle.vpc_model.specs.Id.{is_id}
use Rattle.vpc_model.specs.Names.{name_text}
use Rattle.vpc_model.proofs.Names.{visible_name}
use Rattle.block_report.specs.Reports.{addresses_text, box_line, box_text, row_line}
use Rattle.block_report.specs.Walks.{phase_text}
use Rattle.report_reader.specs.Boxes.{◌>>=◌, box_at, is_inside}
use Rattle.report_reader.specs.Lines.{part_of, row_in, row_of, sides_of, told_in}
use Rattle.report_reader.specs.ReadsBack.{Fits}
use Rattle.report_reader.specs.Reports.{next_row, row_or_end}
use Rattle.report_reader.proofs.Printed.{AreWords, IsWord, IsWord-addresses_text, IsWord-decimal, IsWord-id, IsWord-range_text, joined, words_of-joined}
use Rattle.report_reader.proofs.RowsOf.{IsRowOf}
use Rattle.report_reader.proofs.ReadWords.{box_of-texts, fits-within, is_inside-within, told_of-texts}

-- ---- boxes

-- the words of a box
abbrev pub box_words : Box5 → List (List ℕ)
box_words b = range_text b.proto ∷ addresses_text b.src ∷ addresses_text b.dst ∷ range_text b.p ∷ range_text b.q ∷ []

pub AreWords-box : (b : Box5) → IsValid b → Fits b → AreWords (box_words b)
AreWords-box b valid fits = (
  IsWord-range_text b.proto (omega (arith, valid.proto, fits.proto)) (omega (arith, fits.proto)),
  (
    IsWord-addresses_text b.src (omega (arith, valid.src, fits.src)) fits.src,
    (
      IsWord-addresses_text b.dst (omega (arith, valid.dst, fits.dst)) fits.dst,
      (
        IsWord-range_text b.p (omega (arith, valid.p, fits.p)) fits.p,
        (IsWord-range_text b.q (omega (arith, valid.q, fits.q)) fits.q, tt),
      ),
    ),
  ),
)

-- ---- the words of lines

abbrev pub row_words : ℕ → Row StopText → List (List ℕ)
row_words n row =
    decimal n ∷ phase_text row.word.phase ∷ name_text row.word.name ∷ row.word.id ∷ row.word.rule ∷ box_words row.part

box_words-text : (a b c d e : List ℕ) → (((a ++ 32 ∷ b) ++ 32 ∷ c) ++ 32 ∷ d) ++ 32 ∷ e ≡ joined a (b ∷ c ∷ d ∷ e ∷ [])
box_words-text a b c d e = simp append_assoc

pub box_text-joined : (b : Box5) → box_text b ≡ joined (range_text b.proto) (addresses_text b.src ∷ addresses_text b.dst ∷ range_text b.p ∷ range_text b.q ∷ [])
box_text-joined b = box_words-text (range_text b.proto) (addresses_text b.src) (addresses_text b.dst) (range_text b.p) (range_text b.q)

pub box_line-joined : (b : Box5) → box_line b ≡ joined (codes "box") (box_words b) ++ 10 ∷ []
box_line-joined b = ap (λ (t : List ℕ). (codes "box" ++ 32 ∷ t) ++ 10 ∷ []) (box_text-joined b)

row_words-text : (r n ph na id ru box : List ℕ) → ((r ++ 32 ∷ n) ++ 32 ∷ (ph ++ 32 ∷ ((na ++ 32 ∷ id) ++ 32 ∷ ru))) ++ 32 ∷ box ≡ r ++ 32 ∷ (n ++ 32 ∷ (ph ++ 32 ∷ (na ++ 32 ∷ (id ++ 32 ∷ (ru ++ 32 ∷ box)))))
row_words-text r n ph na id ru box = simp append_assoc

pub row_line-joined : (n : ℕ) (row : Row StopText) → row_line n row ≡ joined (codes "row") (row_words n row) ++ 10 ∷ []
row_line-joined n row =
    let t = row.word in
    ap (λ (text : List ℕ). text ++ 10 ∷ []) (row_words-text (codes "row") (decimal n) (phase_text t.phase) (name_text t.name) t.id t.rule (box_text row.part)
    ∙ ap (λ (box : List ℕ). codes "row" ++ 32 ∷ (decimal n ++ 32 ∷ (phase_text t.phase ++ 32 ∷ (name_text t.name ++ 32 ∷ (t.id ++ 32 ∷ (t.rule ++ 32 ∷ box)))))) (box_text-joined row.part))

-- ---- the box of the query

pub sides_of-words : (b : Box5) → IsValid b → Fits b → sides_of (codes "box" ∷ box_words b) ≡ Some b
sides_of-words b valid fits = box_of-texts b valid fits

-- ---- rows

abbrev row_read : Option Box5 → Option StopText → Option (Row StopText)
row_read part told = part >>= (λ part. told >>= (λ told. Some (record { part = part; word = told })))

row_from : (part : Option Box5) (told : Option StopText) (row : Row StopText) → part ≡ Some row.part → told ≡ Some row.word → row_read part told ≡ Some row
row_from part told row a_is b_is = rw (a_is, b_is) refl

part_from : (whole : Box5) (read : Option Box5) (part : Box5) → read ≡ Some part → is_inside part whole ≡ true → read >>= (λ part. if is_inside part whole then Some part else None) ≡ Some part
part_from whole read part is inside = rw is (cond-true _ _ _ inside)

row_in-words : (whole : Box5) (n : ℕ) (row : Row StopText) → Fits whole → IsRowOf whole row → row_in whole (codes "row" ∷ row_words n row) ≡ Some row
row_in-words whole n row fits h =
    let words = codes "row" ∷ row_words n row in
    let box = box_of-texts row.part (valid_if_within row.part whole h.within) (fits-within row.part whole h.within fits) in
    row_from (part_of whole words) (told_in words) row
    (part_from whole (box_at words 6) row.part box (is_inside-within row.part whole h.within))
    (told_of-texts row.word h.id h.rule)

pub row_of-words : (whole : Box5) (n : ℕ) (row : Row StopText) → Fits whole → IsRowOf whole row → row_of whole n (codes "row" ∷ row_words n row) ≡ Some row
row_of-words whole n row fits h = cond-true _ _ _ (bytes_self (decimal n)) ∙ row_in-words whole n row fits h

-- phases are words
pub visible_phase : (phase : Phase) → is_id (phase_text phase) ≡ true
visible_phase phases.Request = refl
visible_phase phases.Reply = refl

pub AreWords-row : (whole : Box5) (n : ℕ) (row : Row StopText) → n ≤ 20000 → Fits whole → IsRowOf whole row → AreWords (row_words n row)
AreWords-row whole n row few fits h = (
  IsWord-decimal n (omega (arith, few)),
  (
    IsWord-id _ (visible_phase row.word.phase),
    (
      IsWord-id _ (visible_name row.word.name),
      (IsWord-id _ h.id, (IsWord-id _ h.rule, AreWords-box row.part (valid_if_within row.part whole h.within) (fits-within row.part whole h.within fits))),
    ),
  ),
)

pub IsWord-row : IsWord (codes "row")
IsWord-row = IsWord-id (codes "row") refl

-- a row's line
pub next_row-row : (whole : Box5) (count : ℕ) (last : Bool) (row : Row StopText) → count < 20000 → Fits whole → IsRowOf whole row
    → next_row whole count last (joined (codes "row") (row_words (count + 1) row)) ≡ Ok (Some row)
next_row-row whole count last row few fits h =
    let words = codes "row" ∷ row_words (count + 1) row in
    let split = words_of-joined (codes "row") (row_words (count + 1) row) IsWord-row (AreWords-row whole (count + 1) row (omega (arith, few)) fits h) in
    ap (λ (ws : List (List ℕ)). row_or_end count last ws (row_of whole (count + 1) ws)) split
    ∙ (ap (λ (o : Option (Row StopText)). row_or_end count last words o) (row_of-words whole (count + 1) row fits h)
    ∙ cond-true _ _ _ (lt-ltb count 20000 few))

-- the last line
pub next_row-end : (whole : Box5) (count : ℕ) → count ≤ 20000 → next_row whole count true (joined (codes "end") (decimal count ∷ [])) ≡ Ok None
next_row-end whole count few =
    let split = words_of-joined (codes "end") (decimal count ∷ []) (IsWord-id (codes "end") refl) (IsWord-decimal count (omega (arith, few)), tt) in
    ap (λ (ws : List (List ℕ)). row_or_end count true ws (row_of whole (count + 1) ws)) split
    ∙ cond-true _ _ _ (bytes_self (decimal count))
