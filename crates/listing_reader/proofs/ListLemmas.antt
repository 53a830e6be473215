-- The rows of all starts, one start after another.
use Rattle.std.proofs.Common.{◌≡◌, ◌∙◌, ◌+◌, ◌<◌, ◌≤◌, ◌++◌, ◌∷◌, [], All, Bool, Bor, Err, IfOk, IsErrAnd, List, Ok, Result, ap, append_assoc, append-nil, arith, drop, get_or, if◌then◌else◌, length, length-append, map, nat_lt, refl, subst, sym, true, ℕ}
use Rattle.std.proofs.lemmas.Bool.{cond-false, cond-true, le-ltb, lt-ltb, ltb-true}
use Rattle.std.proofs.lemmas.List.{drop-drop, drop-map, drop_all, drop_more}
use Rattle.std.proofs.lemmas.List.Elements.{All-push}
use Rattle.std.proofs.lemmas.List.Sums.{sum_by-append, sum_by-cons, sum_by_push}
use Rattle.vpc_laws.specs.Types.{Row}
use Rattle.report_reader.specs.Reports.{IsRead, row_limit}
use Rattle.report_reader.specs.declared.report.ReportFault.{ReportFault}
use Rattle.report_reader.specs.declared.report.ReportFault.TheVariants as faults
use Rattle.listing_reader.specs.declared.origins.Origin.{Origin}
use Rattle.listing_reader.specs.Listings.{end_after, lists_at, lists_before, lists_in, row_count, rows_at}
use Rattle.listing_reader.specs.Reading.{IsRefused}

-- what remains after so many lines, and some more
drop_on : (lines : List (Bor (List ℕ))) (count more : ℕ) → drop more (map (λ (t : Bor (List ℕ)). t.now) (drop count lines)) ≡ map (λ (t : Bor (List ℕ)). t.now) (drop (count + more) lines)
drop_on lines count more =
    drop-map (λ (t : Bor (List ℕ)). t.now) more (drop count lines) ∙ ap (λ (rest : List (Bor (List ℕ))). map (λ (t : Bor (List ℕ)). t.now) rest) (drop-drop more count lines)

-- the lists that remain begin with the next start's rows
module _ (origins : List Origin) (i : ℕ) (d : Origin) (lines : List (Bor (List ℕ))) (count : ℕ) (lists meant : List (List (Row (List ℕ)))) where
  lists_at-start : (rows : List (Row (List ℕ))) → i < length origins → rows ≡ rows_at (get_or origins i d) (count + 1) (map (λ t. t.now) (drop count lines))
      → lists_at (drop i origins) (count + 1) (map (λ t. t.now) (drop count lines))
      ≡ rows ∷ lists_at (drop (i + 1) origins) (count + length rows + 1) (map (λ t. t.now) (drop (count + length rows) lines))
  lists_at-start rows within are =
      let texts = map (λ (t : Bor (List ℕ)). t.now) (drop count lines) in
      let others = drop (i + 1) origins in
      let number : count + 1 + length rows ≡ count + length rows + 1 = omega arith in
      ap (λ (os : List Origin). lists_at os (count + 1) texts) (drop_more origins i d within)
      ∙ (ap (λ (r : List (Row (List ℕ))). r ∷ lists_at others (count + 1 + length r) (drop (length r) texts)) (sym are)
      ∙ (ap (λ (n : ℕ). rows ∷ lists_at others n (drop (length rows) texts)) number
      ∙ ap (λ (ls : List (List ℕ)). rows ∷ lists_at others (count + length rows + 1) ls) (drop_on lines count (length rows))))

  -- a start's rows are read
  pub lists-next : (more : ℕ) (rows : List (Row (List ℕ))) (all : List (List (Row (List ℕ)))) → i < length origins
      → rows ≡ rows_at (get_or origins i d) (count + 1) (map (λ t. t.now) (drop count lines)) → more ≡ count + length rows
      → lists ++ lists_at (drop i origins) (count + 1) (map (λ t. t.now) (drop count lines)) ≡ meant → all ≡ lists ++ rows ∷ []
      → all ++ lists_at (drop (i + 1) origins) (more + 1) (map (λ t. t.now) (drop more lines)) ≡ meant
  lists-next more rows all within are is so_far with_rows =
      let rest = lists_at (drop (i + 1) origins) (more + 1) (map (λ (t : Bor (List ℕ)). t.now) (drop more lines)) in
      ap (λ (ls : List (List (Row (List ℕ)))). ls ++ rest) with_rows
      ∙ (append_assoc lists (rows ∷ []) rest
      ∙ (ap (λ (n : ℕ). lists ++ rows ∷ lists_at (drop (i + 1) origins) (n + 1) (map (λ (t : Bor (List ℕ)). t.now) (drop n lines))) is
      ∙ (ap (λ (ls : List (List (Row (List ℕ)))). lists ++ ls) (sym (lists_at-start rows within are)) ∙ so_far)))

  past_all : i < length origins → row_count lists ≡ count
      → nat_lt row_limit (count + length (rows_at (get_or origins i d) (count + 1) (map (λ t. t.now) (drop count lines)))) ≡ true
      → lists ++ lists_at (drop i origins) (count + 1) (map (λ t. t.now) (drop count lines)) ≡ meant → nat_lt row_limit (row_count meant) ≡ true
  past_all within counted past so_far =
      let rows = rows_at (get_or origins i d) (count + 1) (map (λ (t : Bor (List ℕ)). t.now) (drop count lines)) in
      let others = lists_at (drop (i + 1) origins) (count + length rows + 1) (map (λ (t : Bor (List ℕ)). t.now) (drop (count + length rows) lines)) in
      let parts : lists ++ rows ∷ others ≡ meant = ap (λ (ls : List (List (Row (List ℕ)))). lists ++ ls) (sym (lists_at-start rows within refl)) ∙ so_far in
      let all : row_count meant ≡ count + (length rows + row_count others) =
      ap row_count (sym parts) ∙ (sum_by-append length lists (rows ∷ others) ∙ (ap (λ (n : ℕ). row_count lists + n) (sum_by-cons length rows others) ∙ ap (λ (n : ℕ). n + (length rows + row_count others)) counted)) in
      lt-ltb row_limit (row_count meant) (omega (arith, all, ltb-true row_limit (count + length rows) past))

-- no start is left
pub lists-done : (origins : List Origin) (i : ℕ) (lines : List (Bor (List ℕ))) (count : ℕ) (lists meant all : List (List (Row (List ℕ)))) → length origins ≤ i
    → lists ++ lists_at (drop i origins) (count + 1) (map (λ t. t.now) (drop count lines)) ≡ meant → all ≡ lists → all ≡ meant
lists-done origins i lines count lists meant all past so_far are =
    are
    ∙ (sym (append-nil lists)
    ∙ (ap (λ (os : List Origin). lists ++ lists_at os (count + 1) (map (λ (t : Bor (List ℕ)). t.now) (drop count lines))) (sym (drop_all i origins past)) ∙ so_far))

-- a start's rows, by what was read of it
pub own_rows : (origins : List Origin) (i : ℕ) (origin : Origin) (lines : List (Bor (List ℕ))) (count : ℕ) (others : List (Bor (List ℕ))) → origin ≡ get_or origins i origin → others ≡ drop count lines
    → rows_at origin (count + 1) (map (λ t. t.now) others) ≡ rows_at (get_or origins i origin) (count + 1) (map (λ t. t.now) (drop count lines))
own_rows origins i origin lines count others own are =
    ap (λ (o : Origin). rows_at o (count + 1) (map (λ (t : Bor (List ℕ)). t.now) others)) own
    ∙ ap (λ (ls : List (Bor (List ℕ))). rows_at (get_or origins i origin) (count + 1) (map (λ (t : Bor (List ℕ)). t.now) ls)) are

-- ---- what is meant by all lines

-- the lists, where they aren't too many and the end follows
abbrev pub finished : Bool → List (List ℕ) → List (List (Row (List ℕ))) → Result (List (List (Row (List ℕ)))) ReportFault
finished ended lines lists =
    if nat_lt row_limit (row_count lists) then Err (faults.TooManyBoxes (row_limit + 3))
    else lists_before lists (end_after (row_count lists) ended (drop (row_count lists) lines))

lists_in-few : (origins : List Origin) (ended : Bool) (lines : List (Bor (List ℕ))) (count : ℕ) (lists : List (List (Row (List ℕ)))) → lists ≡ lists_at origins 1 (map (λ t. t.now) lines)
    → row_count lists ≡ count → count ≤ row_limit
    → lists_in origins ended (map (λ t. t.now) lines) ≡ lists_before lists (end_after count ended (map (λ t. t.now) (drop count lines)))
lists_in-few origins ended lines count lists are counted few =
    let texts = map (λ (t : Bor (List ℕ)). t.now) lines in
    ap (finished ended texts) (sym are)
    ∙ (cond-false _ _ _ (le-ltb row_limit (row_count lists) (omega (arith, counted, few)))
    ∙ (ap (λ (n : ℕ). lists_before lists (end_after n ended (drop n texts))) counted
    ∙ ap (λ (ls : List (List ℕ)). lists_before lists (end_after count ended ls)) (drop-map (λ (t : Bor (List ℕ)). t.now) count lines)))

-- all rows are read
pub lists-read : (origins : List Origin) (ended : Bool) (lines : List (Bor (List ℕ))) (count : ℕ) (lists : List (List (Row (List ℕ)))) (result : Result (List (List (Row (List ℕ)))) ReportFault) (end : List (Bor (List ℕ)))
    → end ≡ drop count lines → lists ≡ lists_at origins 1 (map (λ t. t.now) lines) → row_count lists ≡ count → count ≤ row_limit
    → IsRead (lists_before lists (end_after count ended (map (λ t. t.now) end))) result
    → IsRead (lists_in origins ended (map (λ t. t.now) lines)) result
lists-read origins ended lines count lists result end are_end are counted few read =
    let meant : lists_before lists (end_after count ended (map (λ (t : Bor (List ℕ)). t.now) end)) ≡ lists_in origins ended (map (λ (t : Bor (List ℕ)). t.now) lines) =
    ap (λ (ls : List (Bor (List ℕ))). lists_before lists (end_after count ended (map (λ (t : Bor (List ℕ)). t.now) ls))) are_end ∙ sym (lists_in-few origins ended lines count lists are counted few) in
    subst (λ (m : Result (List (List (Row (List ℕ)))) ReportFault). IsRead m result) meant read

read_refused : (meant : Result (List (List (Row (List ℕ)))) ReportFault) (past : Bool) (fault : ReportFault) → (past ≡ true → meant ≡ Err (faults.TooManyBoxes (row_limit + 3))) → IsRefused past fault
    → IsRead meant (Err fault)
read_refused meant past (faults.BadLine number) follows refused = absurd refused
read_refused meant past (faults.TooManyBoxes number) follows refused = follows refused.1 ∙ ap (λ (n : ℕ). Err (faults.TooManyBoxes n)) (sym refused.0)
read_refused meant past faults.Memory follows refused = tt

-- one row too many, or no memory
pub lists-refused : (origins : List Origin) (i : ℕ) (d : Origin) (ended : Bool) (lines : List (Bor (List ℕ))) (count : ℕ) (lists : List (List (Row (List ℕ)))) (fault : ReportFault)
    (result : Result (List (List (Row (List ℕ)))) ReportFault)
    → i < length origins → row_count lists ≡ count
    → IsRefused (nat_lt row_limit (count + length (rows_at (get_or origins i d) (count + 1) (map (λ t. t.now) (drop count lines))))) fault
    → lists ++ lists_at (drop i origins) (count + 1) (map (λ t. t.now) (drop count lines)) ≡ lists_at origins 1 (map (λ t. t.now) lines)
    → IsErrAnd result (λ e. e ≡ fault)
    → IsRead (lists_in origins ended (map (λ t. t.now) lines)) result
lists-refused origins i d ended lines count lists fault (Ok all) within counted refused so_far same = absurd same
lists-refused origins i d ended lines count lists fault (Err e) within counted refused so_far same =
    let texts = map (λ (t : Bor (List ℕ)). t.now) lines in
    let rows = rows_at (get_or origins i d) (count + 1) (map (λ (t : Bor (List ℕ)). t.now) (drop count lines)) in
    subst (λ (f : ReportFault). IsRead (lists_in origins ended texts) (Err f)) (sym same)
    (read_refused (lists_in origins ended texts) (nat_lt row_limit (count + length rows)) fault
    (λ past. cond-true _ _ _ (past_all origins i d lines count lists (lists_at origins 1 texts) within counted past so_far)) refused)

-- ---- what holds of the lists with one more

pub has_more : {X : Type 0} (P : List X → Type 0) (lists all : List (List X)) (rows : List X) (i : ℕ) → All P lists → P rows → length lists ≡ i → all ≡ lists ++ rows ∷ []
    → All P all × (length all ≡ i + 1)
has_more {X = X} P lists all rows i before here counted are =
    (subst (λ (ls : List (List X)). All P ls) (sym are) (All-push P lists rows before here), omega (arith, ap length are, length-append lists (rows ∷ []), counted))

pub row_count-push : (lists all : List (List (Row (List ℕ)))) (rows : List (Row (List ℕ))) (count more : ℕ) → row_count lists ≡ count → more ≡ count + length rows → all ≡ lists ++ rows ∷ [] → row_count all ≡ more
row_count-push lists all rows count more counted is are =
    ap row_count are ∙ (sum_by_push length lists rows ∙ (ap (λ (n : ℕ). n + length rows) counted ∙ sym is))

-- what holds of the lists holds of a result that is them
pub if_ok_same : {A E : Type 0} (P : A → Type 0) (a : A) (r : Result A E) → IfOk r (λ b. b ≡ a) → P a → IfOk r P
if_ok_same P a (Ok b) same holds = subst P (sym same) holds
if_ok_same P a (Err e) same holds = tt
