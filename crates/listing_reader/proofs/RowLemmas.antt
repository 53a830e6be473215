-- The rows of a start, one after another.
use Rattle.std.proofs.Common.{◌≡◌, ◌∙◌, ◌+◌, ◌<◌, ◌≤◌, ◌&&◌, ◌++◌, ◌∷◌, [], All, Bool, Bor, Err, IfSome, IsErrAnd, List, None, Ok, Option, Result, Some, ap, append_assoc, append-nil, arith, drop, get_or, is_some, length, length-append, map, nat_le, nat_lt, refl, subst, sym, true, ℕ}
use Rattle.std.specs.Prelude.{IfErr}
use Rattle.std.proofs.lemmas.Bool.{and_parts, leb-true, lt-ltb}
use Rattle.std.proofs.lemmas.List.{drop_all, drop_more}
use Rattle.std.proofs.lemmas.List.Elements.{All-push}
use Rattle.vpc_laws.specs.Types.{Row}
use Rattle.query_words.specs.Events.{words_of}
use Rattle.report_reader.specs.Reports.{row_limit}
use Rattle.report_reader.specs.declared.report.ReportFault.{ReportFault}
use Rattle.report_reader.specs.declared.report.ReportFault.TheVariants as faults
use Rattle.listing_reader.specs.declared.origins.Origin.{Origin}
use Rattle.listing_reader.specs.Listings.{row_before, row_of, rows_at}
use Rattle.listing_reader.specs.Reading.{IsRefused}

-- a refusal by one test is one by another that the first implies
pub refused_by : (first second : Bool) (fault : ReportFault) → (first ≡ true → second ≡ true) → IsRefused first fault → IsRefused second fault
refused_by first second (faults.BadLine number) follows refused = refused
refused_by first second (faults.TooManyBoxes number) follows refused = (refused.0, follows refused.1)
refused_by first second faults.Memory follows refused = tt

-- what remains begins with what the next line says
rows_at-line : (origin : Origin) (n : ℕ) (lines : List (Bor (List ℕ))) (k : ℕ) (d : Bor (List ℕ)) → k < length lines
    → rows_at origin n (map (λ t. t.now) (drop k lines))
    ≡ row_before (let line : Bor (List ℕ) = get_or lines k d in row_of origin n (words_of line.now)) (rows_at origin (n + 1) (map (λ t. t.now) (drop (k + 1) lines)))
rows_at-line origin n lines k d within = ap (λ (rest : List (Bor (List ℕ))). rows_at origin n (map (λ t. t.now) rest)) (drop_more lines k d within)

-- the rows so far, before what a line says and what remains after it
module _ (origin : Origin) (count : ℕ) (lines : List (Bor (List ℕ))) (k : ℕ) (d : Bor (List ℕ)) (rows meant : List (Row (List ℕ))) where
  by_line : (next : Option (Row (List ℕ))) → k < length lines → (let line : Bor (List ℕ) = get_or lines k d in next ≡ row_of origin (count + k + 1) (words_of line.now))
      → rows ++ rows_at origin (count + k + 1) (map (λ t. t.now) (drop k lines)) ≡ meant
      → rows ++ row_before next (rows_at origin (count + (k + 1) + 1) (map (λ t. t.now) (drop (k + 1) lines))) ≡ meant
  by_line next within says so_far =
      let rest = map (λ (t : Bor (List ℕ)). t.now) (drop (k + 1) lines) in
      let number : count + (k + 1) + 1 ≡ count + k + 1 + 1 = omega arith in
      ap (λ (n : ℕ). rows ++ row_before next (rows_at origin n rest)) number
      ∙ (ap (λ (o : Option (Row (List ℕ))). rows ++ row_before o (rows_at origin (count + k + 1 + 1) rest)) says
      ∙ (ap (λ (more : List (Row (List ℕ))). rows ++ more) (sym (rows_at-line origin (count + k + 1) lines k d within)) ∙ so_far))

  -- a row is read
  pub rows-next : (all : List (Row (List ℕ))) (row : Row (List ℕ)) (next : Option (Row (List ℕ))) → k < length lines
      → (let line : Bor (List ℕ) = get_or lines k d in next ≡ row_of origin (count + k + 1) (words_of line.now)) → next ≡ Some row
      → rows ++ rows_at origin (count + k + 1) (map (λ t. t.now) (drop k lines)) ≡ meant → all ≡ rows ++ row ∷ []
      → all ++ rows_at origin (count + (k + 1) + 1) (map (λ t. t.now) (drop (k + 1) lines)) ≡ meant
  rows-next all row next within says some so_far are =
      let rest = rows_at origin (count + (k + 1) + 1) (map (λ (t : Bor (List ℕ)). t.now) (drop (k + 1) lines)) in
      ap (λ (r : List (Row (List ℕ))). r ++ rest) are
      ∙ (append_assoc rows (row ∷ []) rest ∙ by_line (Some row) within (sym some ∙ says) so_far)

  -- the line is none of the start's
  pub rows-end : (all : List (Row (List ℕ))) (next : Option (Row (List ℕ))) → k < length lines
      → (let line : Bor (List ℕ) = get_or lines k d in next ≡ row_of origin (count + k + 1) (words_of line.now)) → next ≡ None
      → rows ++ rows_at origin (count + k + 1) (map (λ t. t.now) (drop k lines)) ≡ meant → all ≡ rows → all ≡ meant
  rows-end all next within says none so_far are = are ∙ (sym (append-nil rows) ∙ by_line None within (sym none ∙ says) so_far)

  -- no line is left
  pub rows-missing : (all : List (Row (List ℕ))) → length lines ≤ k → rows ++ rows_at origin (count + k + 1) (map (λ t. t.now) (drop k lines)) ≡ meant → all ≡ rows → all ≡ meant
  rows-missing all past so_far are =
      are
      ∙ (sym (append-nil rows)
      ∙ (ap (λ (rest : List (Bor (List ℕ))). rows ++ rows_at origin (count + k + 1) (map (λ t. t.now) rest)) (sym (drop_all k lines past)) ∙ so_far))

  some_more : (next : Option (Row (List ℕ))) (others : List (Row (List ℕ))) → is_some next ≡ true → rows ++ row_before next others ≡ meant → length rows < length meant
  some_more None others some are = absurd (cc)
  some_more (Some row) others some are = omega (arith, ap length are, length-append rows (row ∷ others))

  past_limit : k < length lines → length rows ≡ k
      → (let line : Bor (List ℕ) = get_or lines k d in (is_some (row_of origin (count + k + 1) (words_of line.now)) && nat_le row_limit (count + k)) ≡ true)
      → rows ++ rows_at origin (count + k + 1) (map (λ t. t.now) (drop k lines)) ≡ meant → nat_lt row_limit (count + length meant) ≡ true
  past_limit within counted past so_far =
      let line : Bor (List ℕ) = get_or lines k d in
      let next = row_of origin (count + k + 1) (words_of line.now) in
      let (some, full) = and_parts (is_some next) (nat_le row_limit (count + k)) past in
      let more = some_more next (rows_at origin (count + (k + 1) + 1) (map (λ (t : Bor (List ℕ)). t.now) (drop (k + 1) lines))) some (by_line next within refl so_far) in
      lt-ltb row_limit (count + length meant) (omega (arith, counted, more, leb-true row_limit (count + k) full))

  -- one row too many, or no memory
  pub rows-refused : (fault : ReportFault) (result : Result (List (Row (List ℕ))) ReportFault) → k < length lines → length rows ≡ k
      → (let line : Bor (List ℕ) = get_or lines k d in IsRefused (is_some (row_of origin (count + k + 1) (words_of line.now)) && nat_le row_limit (count + k)) fault)
      → rows ++ rows_at origin (count + k + 1) (map (λ t. t.now) (drop k lines)) ≡ meant → IsErrAnd result (λ e. e ≡ fault)
      → IfErr result (IsRefused (nat_lt row_limit (count + length meant)))
  rows-refused fault (Ok all) within counted refused so_far same = tt
  rows-refused fault (Err e) within counted refused so_far same =
      let line : Bor (List ℕ) = get_or lines k d in
      let next = row_of origin (count + k + 1) (words_of line.now) in
      subst (λ (f : ReportFault). IsRefused (nat_lt row_limit (count + length meant)) f) (sym same)
      (refused_by (is_some next && nat_le row_limit (count + k)) (nat_lt row_limit (count + length meant)) fault (λ past. past_limit within counted past so_far) refused)

-- ---- what holds of the rows with one more

if_some : {X : Type 0} (P : X → Type 0) (next : Option X) (x : X) → IfSome next P → next ≡ Some x → P x
if_some {X = X} P next x it some = subst (λ (o : Option X). IfSome o P) some it

pub record HasMore {X : Type 0} (P : X → Type 0) (all : List X) (k n most : ℕ) : Type 0 where
  pub holds : All P all
  pub counted : length all ≡ k + 1
  pub few : n + (k + 1) ≤ most

pub has_more : {X : Type 0} (P : X → Type 0) (rows all : List X) (row : X) (next : Option X) (k n most : ℕ)
    → All P rows → length rows ≡ k → IfSome next P → IfSome next (λ r. n + k < most) → next ≡ Some row → all ≡ rows ++ row ∷ [] → HasMore P all k n most
has_more {X = X} P rows all row next k n most before counted it below some are =
    let here : n + k < most = if_some (λ (r : X). n + k < most) next row below some in
    record {
      holds = subst (λ (xs : List X). All P xs) (sym are) (All-push P rows row before (if_some P next row it some));
      counted = omega (arith, ap length are, length-append rows (row ∷ []), counted);
      few = omega (arith, here);
    }
