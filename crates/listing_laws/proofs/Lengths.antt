-- How long listings are.
use Rattle.std.proofs.Common.{◌≡◌, ◌+◌, ◌*◌, ◌≤◌, ◌++◌, ◌∷◌, [], All, List, arith, codes, decimal, length, length-append, lit<, suc, ℕ}
use Rattle.std.proofs.lemmas.Fmt.{length-decimal-le}
use Rattle.std.proofs.lemmas.List.Elements.{All-head, All-tail}
use Rattle.std.proofs.lemmas.List.Sums.{sum_by-cons}
use Rattle.block_report.specs.Reports.{box_text}
use Rattle.listing_reader.specs.Listings.{row_count}
use Rattle.listing_reader.specs.Printed.{Printed, end_line, lines_from, lists_of, row_line, row_lines_from}
use Rattle.listing_reader.specs.ReadsBack.{ArePrintable, IsPrintable, IsPrintableRow}
use Rattle.report_reader.specs.ReadsBack.{length_limit}
use Rattle.report_reader.proofs.Lengths.{length-box_text-le}
use Rattle.vpc_laws.specs.Types.{Box5, Row}
use Rattle.listing_laws.proofs.SecondLines.{spaced}
use Rattle.listing_laws.proofs.ShortWords.{IsShortWord}

-- ---- rows

length-number-le : (n : ℕ) → n ≤ 20000 → length (decimal n) ≤ 5
length-number-le n few = length-decimal-le 5 n (lit< tt) (omega (arith, few)) (omega (arith, few))

row_words : (n id told box : List ℕ) → length n ≤ 5 → length id ≤ 256 → length told ≤ 2405 → length box ≤ 100
    → length (((((codes "row" ++ 32 ∷ n) ++ 32 ∷ id) ++ 32 ∷ told) ++ 32 ∷ box) ++ 10 ∷ []) ≤ 2800
row_words n id told box ln li lt lb = simp length-append (omega arith)

-- what is told in a row isn't long
abbrev pub HasShortText : Row (List ℕ) → Type 0
HasShortText row = length row.word ≤ 2405

line_more : (line lines : List ℕ) (n : ℕ) → length line ≤ 2800 → length lines ≤ n * 2800 → length (line ++ lines) ≤ suc n * 2800
line_more line lines n short few = omega (arith, length-append line lines)

length-row_lines-le : (n : ℕ) (id : List ℕ) (boxes : List Box5) (rows : List (Row (List ℕ))) → n + length rows ≤ 20001 → length id ≤ 256
    → All (IsPrintableRow boxes) rows → All HasShortText rows → length (row_lines_from n id rows) ≤ length rows * 2800
length-row_lines-le n id boxes [] few short h texts = omega arith
length-row_lines-le n id boxes (row ∷ rows) few short h texts =
    let first = All-head (IsPrintableRow boxes) row rows h in
    line_more (row_line n id row) (row_lines_from (n + 1) id rows) (length rows)
    (row_words (decimal n) id row.word (box_text row.part) (length-number-le n (omega (arith, few))) short
    (All-head HasShortText row rows texts)
    (length-box_text-le row.part first.valid first.fits))
    (length-row_lines-le (n + 1) id boxes rows (omega (arith, few)) short (All-tail (IsPrintableRow boxes) row rows h)
    (All-tail HasShortText row rows texts))

-- a start with such rows
pub record HasShortRows (p : Printed) : Type 0 where
  pub id : length p.origin.id ≤ 256
  pub rows : All HasShortText p.rows

lists_more : (own others : List ℕ) (m n k : ℕ) → length own ≤ m * 2800 → length others ≤ n * 2800 → k ≡ m + n
    → length (own ++ others) ≤ k * 2800
lists_more own others m n k first second is = omega (arith, length-append own others, first, second, is)

length-lines-le : (n : ℕ) (printed : List Printed) → n + row_count (lists_of printed) ≤ 20001 → All IsPrintable printed
    → All HasShortRows printed
    → length (lines_from n printed) ≤ row_count (lists_of printed) * 2800
length-lines-le n [] few h short = omega arith
length-lines-le n (p ∷ printed) few h short =
    let first = All-head IsPrintable p printed h in
    let own = All-head HasShortRows p printed short in
    let count = sum_by-cons length p.rows (lists_of printed) in
    lists_more (row_lines_from n p.origin.id p.rows) (lines_from (n + length p.rows) printed) (length p.rows) (row_count (lists_of printed))
    (row_count (lists_of (p ∷ printed)))
    (length-row_lines-le n p.origin.id p.origin.boxes p.rows (omega (arith, few, count)) own.id first.rows own.rows)
    (length-lines-le (n + length p.rows) printed (omega (arith, few, count)) (All-tail IsPrintable p printed h)
    (All-tail HasShortRows p printed short))
    count

-- ---- the whole

length-spaced-le : (first : List ℕ) (others : List (List ℕ)) → All IsShortWord others
    → length (spaced first others) ≤ length first + length others * 257
length-spaced-le first [] all = omega (arith, length-append first [])
length-spaced-le first (second ∷ others) all =
    let head = All-head IsShortWord second others all in
    let short = head.short in
    let rest = length-spaced-le second others (All-tail IsShortWord second others all) in
    let size = length-append first (32 ∷ spaced second others) in
    omega (arith, short, rest, size)

four_parts : (tag second lines end : List ℕ) → length tag ≤ 20 → length second ≤ 4000 → length lines ≤ 56000000 → length end ≤ 20
    → length (tag ++ 10 ∷ (second ++ 10 ∷ (lines ++ end))) ≤ length_limit
four_parts tag second lines end lt ls ll le = simp length-append (omega arith)

end_words : (n : List ℕ) → length n ≤ 5 → length ((codes "end" ++ 32 ∷ n) ++ 10 ∷ []) ≤ 20
end_words n short = simp length-append (omega arith)

pub listing_fits : (tag : List ℕ) (given : List (List ℕ)) (printed : List Printed) (count : ℕ) → length tag ≤ 20 → All IsShortWord given
    → length given ≤ 14
    → ArePrintable printed → All HasShortRows printed → row_count (lists_of printed) ≡ count
    → length (tag ++ 10 ∷ (spaced (codes "query") given ++ 10 ∷ (lines_from 1 printed ++ end_line count))) ≤ length_limit
listing_fits tag given printed count short spelled few h rows counted =
    let most = h.few in
    let query = length-spaced-le (codes "query") given spelled in
    let lines = length-lines-le 1 printed (omega (arith, most)) h.each rows in
    four_parts tag (spaced (codes "query") given) (lines_from 1 printed) (end_line count) short (omega (arith, query, few))
    (omega (arith, lines, most))
    (end_words (decimal count) (length-number-le count (omega (arith, counted, most))))
