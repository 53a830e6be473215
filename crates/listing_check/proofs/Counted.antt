-- The rows of several starts, counted.
use Rattle.std.proofs.Common.{◌+◌, ◌<◌, ◌≡◌, ◌≤◌, ◌∙◌, ◌∷◌, [], List, None, Option, Some, ap, arith, get_or, length, refl, slice_get, subst, suc, sum_by, sym, zero, ℕ}
use Rattle.std.specs.Option.{IfSome}
use Rattle.std.proofs.lemmas.List.Sums.{sum_by-cons, sum_by_more, sum_by_more_le}
use Rattle.std.proofs.lemmas.List.{get_or_default}
use Rattle.std.proofs.lemmas.Option.{get_or_from_slice_get, same_Some, slice_get-get_or, slice_get_within}
use Rattle.header_boxes.specs.declared.rows.Row.{Row}
use Rattle.listing_reader.specs.Listings.{row_count}
use Rattle.report_reader.specs.Reports.{row_limit}
use Rattle.listing_check.specs.Asked.{Asked, Listed, listed_of}
use Rattle.listing_check.specs.Found.{rows_before}
use Rattle.listing_check.specs.Looks.{IsLook, asked_by}
use Rattle.listing_check.specs.declared.looks.Look.{Look}

abbrev Rows : Type 0
Rows = List (Row (List ℕ))

abbrev count_of : Listed → ℕ
count_of l = length l.rows

-- ---- a start and its rows, by number

abbrev listed : Asked → Rows → Listed
listed asked rows = record { asked = asked; rows = rows }

listed_both : (x a : Asked) (y rows : Rows) → x ≡ a → y ≡ rows → Some (listed x y) ≡ Some (listed a rows)
listed_both x a y rows e f = ap (λ (z : Asked). Some (listed z y)) e ∙ ap (λ (z : Rows). Some (listed a z)) f

listed_at : (asked : List Asked) (lists : List Rows) (k : ℕ) (a : Asked) (rows : Rows) → slice_get asked k ≡ Some a → slice_get lists k ≡ Some rows
    → slice_get (listed_of asked lists) k ≡ Some (listed a rows)
listed_at [] lists k a rows e f = absurd (let less = slice_get_within [] k a e in omega (arith, less))
listed_at (x ∷ xs) [] k a rows e f = absurd (let less = slice_get_within [] k rows f in omega (arith, less))
listed_at (x ∷ xs) (y ∷ ys) zero a rows e f = listed_both x a y rows (same_Some x a e) (same_Some y rows f)
listed_at (x ∷ xs) (y ∷ ys) (suc k) a rows e f = listed_at xs ys k a rows e f

-- ---- all of them

pub length-listed : (asked : List Asked) (lists : List Rows) → length lists ≡ length asked → length (listed_of asked lists) ≡ length asked
length-listed [] lists same = refl
length-listed (x ∷ xs) [] same = absurd (omega (arith, same))
length-listed (x ∷ xs) (y ∷ ys) same = let rest = length-listed xs ys (omega (arith, same)) in omega (arith, rest)

rows-listed : (asked : List Asked) (lists : List Rows) → length lists ≡ length asked → sum_by count_of (listed_of asked lists) ≡ row_count lists
rows-listed [] [] same = refl
rows-listed [] (y ∷ ys) same = absurd (omega (arith, same))
rows-listed (x ∷ xs) [] same = absurd (omega (arith, same))
rows-listed (x ∷ xs) (y ∷ ys) same =
    let rest = rows-listed xs ys (omega (arith, same)) in
    let here = sum_by-cons count_of (listed x y) (listed_of xs ys) in
    let there = sum_by-cons (λ (rows : Rows). length rows) y ys in
    omega (arith, rest, here, there)

-- ---- one start

-- an item of the lists as it was lent
pub item_is : (lists : List Rows) (k : ℕ) (list rows : Rows) → k < length lists → rows ≡ list → list ≡ get_or lists k list → rows ≡ get_or lists k rows
item_is lists k list rows below same at = same ∙ (at ∙ get_or_default lists k list rows below)

-- what a look at the rows of a start finds
pub record IsLookAt (starts : List Listed) (k : ℕ) (rows : Rows) (look : Look) : Type 0 where
  pub l : Listed
  pub stands : slice_get starts k ≡ Some l
  pub rows_are : l.rows ≡ rows
  pub look_is : IsLook l look

-- that, where there is such a start
abbrev pub Sees : List Asked → ℕ → Rows → Look → Type 0
Sees asked start rows look = IfSome (slice_get asked start) (λ a. IsLook (record { asked = a; rows = rows }) look)

pub looked_at : (asked : List Asked) (lists : List Rows) (k start : ℕ) (rows : Rows) (look : Look) → length lists ≡ length asked → k < length lists
    → rows ≡ get_or lists k rows → start ≡ k → Sees asked start rows look
    → IsLookAt (listed_of asked lists) k rows look
looked_at asked lists k start rows look same below at start_is found =
    let none : Asked = asked_by (λ h. None) [] in
    let a : Asked = get_or asked k none in
    let asked_is : slice_get asked k ≡ Some a = slice_get-get_or asked k none (omega (arith, same, below)) in
    let rows_are : slice_get lists k ≡ Some rows = slice_get-get_or lists k rows below ∙ ap (λ (z : Rows). Some z) (sym at) in
    record {
      l = record { asked = a; rows = rows };
      stands = listed_at asked lists k a rows asked_is rows_are;
      rows_are = refl;
      look_is = subst (λ (o : Option Asked). IfSome o (λ b. IsLook (record { asked = b; rows = rows }) look)) asked_is
          (subst (λ (s : ℕ). IfSome (slice_get asked s) (λ b. IsLook (record { asked = b; rows = rows }) look)) start_is found);
    }

-- the rows up to a start and its own are no more than all rows
pub rows-upto : (asked : List Asked) (lists : List Rows) (k : ℕ) (rows : Rows) → length lists ≡ length asked → k < length lists → rows ≡ get_or lists k rows
    → row_count lists ≤ row_limit → rows_before k (listed_of asked lists) + length rows ≤ row_limit
rows-upto asked lists k rows same below at few =
    let none : Asked = asked_by (λ h. None) [] in
    let a : Asked = get_or asked k none in
    let l : Listed = record { asked = a; rows = rows } in
    let stands = listed_at asked lists k a rows (slice_get-get_or asked k none (omega (arith, same, below))) (slice_get-get_or lists k rows below ∙ ap (λ (z : Rows). Some z) (sym at)) in
    let item : length (get_or (listed_of asked lists) k l).rows ≡ length rows = ap (λ (m : Listed). length m.rows) (get_or_from_slice_get (listed_of asked lists) k l l stands) in
    let part = sum_by_more_le count_of (listed_of asked lists) k l (slice_get_within (listed_of asked lists) k l stands) in
    let all = rows-listed asked lists same in
    omega (arith, part, item, all, few)

-- the rows before the next start
pub rows-next : (starts : List Listed) (k : ℕ) (l : Listed) → slice_get starts k ≡ Some l → rows_before (k + 1) starts ≡ rows_before k starts + length l.rows
rows-next starts k l stands =
    let item : length (get_or starts k l).rows ≡ length l.rows = ap (λ (m : Listed). length m.rows) (get_or_from_slice_get starts k l l stands) in
    let more = sum_by_more count_of starts k l (slice_get_within starts k l stands) in
    omega (arith, item, more)
