-- Rows on lines, one after another.
use Rattle.std.proofs.Common.{◌≡◌, ◌∙◌, ◌+◌, ◌<◌, ◌≤◌, ◌-◌, ◌==◌, ◌&&◌, ◌++◌, ◌∷◌, [], Bool, Bor, Err, List, None, Ok, Option, Result, Some, ap, append_assoc, append-nil, arith, drop, get_or, length, map, refl, subst, sym, IsErrAnd, ℕ}
use Rattle.std.proofs.lemmas.Bool.Decides.{nat_tests}
use Rattle.std.proofs.lemmas.List.{drop_all, get_or_default, length-drop, length-map}
use Rattle.vpc_base.proofs.Steps.{drop-next}
use Rattle.vpc_laws.specs.Types.{Box5, Row, StopText}
use Rattle.report_reader.specs.declared.report.ReportFault.{ReportFault}
use Rattle.report_reader.specs.declared.report.ReportFault.TheVariants as faults
use Rattle.report_reader.specs.Reports.{IsRead, next_row, row_before, rows_from}

-- rows before others
abbrev pub after_rows : {A E : Type 0} → List A → Result (List A) E → Result (List A) E
after_rows rows (Ok more) = Ok (rows ++ more)
after_rows rows (Err fault) = Err fault

after_rows-row : {A E : Type 0} (rows : List A) (row : A) (rest : Result (List A) E) → after_rows rows (row_before (Ok (Some row)) rest) ≡ after_rows (rows ++ row ∷ []) rest
after_rows-row {A = A} rows row (Ok more) = ap (λ (all : List A). Ok all) (sym (append_assoc rows (row ∷ []) more))
after_rows-row rows row (Err fault) = refl

after_rows-end : {A E : Type 0} (rows : List A) (rest : Result (List A) E) → after_rows rows (row_before (Ok None) rest) ≡ Ok rows
after_rows-end {A = A} rows rest = ap (λ (all : List A). Ok all) (append-nil rows)

after_rows-fault : {A E : Type 0} (rows : List A) (fault : E) (rest : Result (List A) E) → after_rows rows (row_before (Err fault) rest) ≡ Err fault
after_rows-fault rows fault rest = refl

-- ---- one line more

none_left : (n k m : ℕ) → m ≡ n - (k + 1) → k < n → (m == 0) ≡ (k + 1 == n)
none_left n k m rest within = grind (arith, nat_tests)

-- no line is left after the last one
pub last_line : (lines : List (Bor (List ℕ))) (k : ℕ) → k < length lines → (length (map (λ t. t.now) (drop (k + 1) lines)) == 0) ≡ (k + 1 == length lines)
last_line lines k within =
    none_left (length lines) k _ (length-map (drop (k + 1) lines) (λ (t : Bor (List ℕ)). t.now) ∙ length-drop (k + 1) lines) within

-- what remains begins with what the next line says
rows_from-line : (whole : Box5) (ended last : Bool) (lines : List (Bor (List ℕ))) (k : ℕ) (line d : Bor (List ℕ)) → k < length lines → line ≡ get_or lines k d → last ≡ ((k + 1 == length lines) && ended)
    → rows_from whole ended k (map (λ t. t.now) (drop k lines)) ≡ row_before (next_row whole k last line.now) (rows_from whole ended (k + 1) (map (λ t. t.now) (drop (k + 1) lines)))
rows_from-line whole ended last lines k line d within at is =
    let rest = map (λ (t : Bor (List ℕ)). t.now) (drop (k + 1) lines) in
    ap (λ (xs : List (Bor (List ℕ))). rows_from whole ended k (map (λ t. t.now) xs)) (drop-next lines k line within (at ∙ get_or_default lines k d line within))
    ∙ ap (λ (b : Bool). row_before (next_row whole k b line.now) (rows_from whole ended (k + 1) rest)) (ap (λ (b : Bool). b && ended) (last_line lines k within) ∙ sym is)

-- what is meant, told by what the next line says
remaining : (whole : Box5) (ended last : Bool) (lines : List (Bor (List ℕ))) (k : ℕ) (line d : Bor (List ℕ)) (rows : List (Row StopText)) (next : Result (Option (Row StopText)) ReportFault) (meant : Result (List (Row StopText)) ReportFault)
    → k < length lines → line ≡ get_or lines k d → last ≡ ((k + 1 == length lines) && ended) → next_row whole k last line.now ≡ next
    → after_rows rows (rows_from whole ended k (map (λ t. t.now) (drop k lines))) ≡ meant
    → after_rows rows (row_before next (rows_from whole ended (k + 1) (map (λ t. t.now) (drop (k + 1) lines)))) ≡ meant
remaining whole ended last lines k line d rows next meant within at is says so_far =
    let rest = rows_from whole ended (k + 1) (map (λ (t : Bor (List ℕ)). t.now) (drop (k + 1) lines)) in
    ap (λ (r : Result (Option (Row StopText)) ReportFault). after_rows rows (row_before r rest)) (sym says)
    ∙ (ap (λ (r : Result (List (Row StopText)) ReportFault). after_rows rows r) (sym (rows_from-line whole ended last lines k line d within at is)) ∙ so_far)

-- a row is read
pub rows-next : (whole : Box5) (ended last : Bool) (lines : List (Bor (List ℕ))) (k : ℕ) (d : Bor (List ℕ)) (rows all : List (Row StopText)) (row : Row StopText) (next : Option (Row StopText)) (meant : Result (List (Row StopText)) ReportFault)
    → k < length lines → last ≡ ((k + 1 == length lines) && ended) → (let b : Bor (List ℕ) = get_or lines k d in next_row whole k last b.now ≡ Ok next) → next ≡ Some row
    → after_rows rows (rows_from whole ended k (map (λ t. t.now) (drop k lines))) ≡ meant → all ≡ rows ++ row ∷ []
    → after_rows all (rows_from whole ended (k + 1) (map (λ t. t.now) (drop (k + 1) lines))) ≡ meant
rows-next whole ended last lines k d rows all row next meant within is says some so_far are =
    let rest = rows_from whole ended (k + 1) (map (λ (t : Bor (List ℕ)). t.now) (drop (k + 1) lines)) in
    ap (λ (r : List (Row StopText)). after_rows r rest) are
    ∙ (sym (after_rows-row rows row rest)
    ∙ remaining whole ended last lines k (get_or lines k d) d rows (Ok (Some row)) meant within refl is (says ∙ ap (λ (o : Option (Row StopText)). Ok o) some) so_far)

-- the report ends
pub rows-end : (whole : Box5) (ended last : Bool) (lines : List (Bor (List ℕ))) (k : ℕ) (d : Bor (List ℕ)) (rows all : List (Row StopText)) (next : Option (Row StopText)) (meant : Result (List (Row StopText)) ReportFault)
    → k < length lines → last ≡ ((k + 1 == length lines) && ended) → (let b : Bor (List ℕ) = get_or lines k d in next_row whole k last b.now ≡ Ok next) → next ≡ None
    → after_rows rows (rows_from whole ended k (map (λ t. t.now) (drop k lines))) ≡ meant → all ≡ rows
    → meant ≡ Ok all
rows-end whole ended last lines k d rows all next meant within is says none so_far are =
    sym (remaining whole ended last lines k (get_or lines k d) d rows (Ok None) meant within refl is (says ∙ ap (λ (o : Option (Row StopText)). Ok o) none) so_far)
    ∙ (after_rows-end rows (rows_from whole ended (k + 1) (map (λ (t : Bor (List ℕ)). t.now) (drop (k + 1) lines)))
    ∙ ap (λ (r : List (Row StopText)). Ok r) (sym are))

rows-fault : (whole : Box5) (ended last : Bool) (lines : List (Bor (List ℕ))) (k : ℕ) (d : Bor (List ℕ)) (rows : List (Row StopText)) (fault : ReportFault) (meant : Result (List (Row StopText)) ReportFault)
    → k < length lines → last ≡ ((k + 1 == length lines) && ended) → (let b : Bor (List ℕ) = get_or lines k d in next_row whole k last b.now ≡ Err fault)
    → after_rows rows (rows_from whole ended k (map (λ t. t.now) (drop k lines))) ≡ meant
    → meant ≡ Err fault
rows-fault whole ended last lines k d rows fault meant within is says so_far =
    sym (remaining whole ended last lines k (get_or lines k d) d rows (Err fault) meant within refl is says so_far)

-- a fault that was told is meant
told_fault : (whole : Box5) (ended last : Bool) (lines : List (Bor (List ℕ))) (k : ℕ) (d : Bor (List ℕ)) (rows : List (Row StopText)) (fault : ReportFault) (meant : Result (List (Row StopText)) ReportFault)
    → k < length lines → last ≡ ((k + 1 == length lines) && ended) → (let b : Bor (List ℕ) = get_or lines k d in IsRead (next_row whole k last b.now) (Err fault))
    → after_rows rows (rows_from whole ended k (map (λ t. t.now) (drop k lines))) ≡ meant
    → IsRead meant (Err fault)
told_fault whole ended last lines k d rows (faults.BadLine number) meant within is says so_far = rows-fault whole ended last lines k d rows (faults.BadLine number) meant within is says so_far
told_fault whole ended last lines k d rows (faults.TooManyBoxes number) meant within is says so_far = rows-fault whole ended last lines k d rows (faults.TooManyBoxes number) meant within is says so_far
told_fault whole ended last lines k d rows faults.Memory meant within is says so_far = tt

pub rows-refused : (whole : Box5) (ended last : Bool) (lines : List (Bor (List ℕ))) (k : ℕ) (d : Bor (List ℕ)) (rows : List (Row StopText)) (fault : ReportFault) (meant result : Result (List (Row StopText)) ReportFault)
    → k < length lines → last ≡ ((k + 1 == length lines) && ended) → (let b : Bor (List ℕ) = get_or lines k d in IsRead (next_row whole k last b.now) (Err fault))
    → after_rows rows (rows_from whole ended k (map (λ t. t.now) (drop k lines))) ≡ meant → IsErrAnd result (λ e. e ≡ fault)
    → IsRead meant result
rows-refused whole ended last lines k d rows fault meant (Ok all) within is says so_far same = absurd same
rows-refused whole ended last lines k d rows fault meant (Err e) within is says so_far same =
    subst (λ (f : ReportFault). IsRead meant (Err f)) (sym same) (told_fault whole ended last lines k d rows fault meant within is says so_far)

-- no line is left
pub rows-missing : (whole : Box5) (ended : Bool) (lines : List (Bor (List ℕ))) (k : ℕ) (rows : List (Row StopText)) (meant : Result (List (Row StopText)) ReportFault)
    → length lines ≤ k → after_rows rows (rows_from whole ended k (map (λ t. t.now) (drop k lines))) ≡ meant → meant ≡ Err (faults.BadLine (k + 4))
rows-missing whole ended lines k rows meant past so_far =
    sym so_far ∙ ap (λ (xs : List (Bor (List ℕ))). after_rows rows (rows_from whole ended k (map (λ t. t.now) xs))) (drop_all k lines past)
