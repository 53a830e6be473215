-- Starts with their rows, as they are printed, read and asked for.
use Rattle.std.proofs.Common.{◌≡◌, ◌∙◌, ◌++◌, ◌∷◌, [], All, List, Ok, Result, ap, arith, length, map, refl, subst, sum_by, sym, ℕ}
use Rattle.std.proofs.lemmas.List.Elements.{All-map}
use Rattle.std.proofs.lemmas.List.Sums.{sum_by-cons}
use Rattle.vpc_laws.specs.Types.{Row}
use Rattle.listing_check.specs.Answered.{origins_of}
use Rattle.listing_check.specs.Asked.{Asked, IsTrueListing, IsTrueOf, Listed, listed_of}
use Rattle.listing_reader.proofs.ReadLists.{printed_lists_read_back}
use Rattle.listing_reader.specs.Listings.{lists_in, row_count}
use Rattle.listing_reader.specs.ReadsBack.{ArePrintable}
use Rattle.listing_reader.specs.Printed.{Printed, end_line, lines_from, lists_of}
use Rattle.listing_reader.specs.Printed as lines
use Rattle.listing_reader.specs.declared.origins.Origin.{Origin}
use Rattle.report_reader.specs.Reports.{is_ended, lines_of, pieces_of}
use Rattle.report_reader.specs.declared.report.ReportFault.{ReportFault}

-- a start as it is read
abbrev pub origin_of : Asked → Origin
origin_of asked = record { id = asked.id; boxes = asked.boxes }

-- a start with its rows as they are printed
abbrev pub printed_as : Asked → List (Row (List ℕ)) → Printed
printed_as asked rows = record { origin = origin_of asked; rows = rows }

-- what a listing says of it
abbrev pub listed_as : Asked → List (Row (List ℕ)) → Listed
listed_as asked rows = record { asked = asked; rows = rows }

-- the rows in a text, by their starts
abbrev pub lists_from : List Origin → List ℕ → Result (List (List (Row (List ℕ)))) ReportFault
lists_from origins text = let pieces = pieces_of text in lists_in origins (is_ended pieces) (lines_of pieces)

-- rows of type T know their start and the texts of what they tell
module _ {T S : Type 0} (start_of : T → S) (ask : S → Asked) (rows_of : T → List (Row (List ℕ))) where
  abbrev pub printed_at : T → Printed
  printed_at t = printed_as (ask (start_of t)) (rows_of t)

  abbrev pub listed_at : T → Listed
  listed_at t = listed_as (ask (start_of t)) (rows_of t)

  same_origins : (told : List T) → lines.origins_of (map printed_at told) ≡ origins_of (map ask (map start_of told))
  same_origins [] = refl
  same_origins (t ∷ told) = ap (λ (os : List Origin). origin_of (ask (start_of t)) ∷ os) (same_origins told)

  same_listed : (told : List T) → map listed_at told ≡ listed_of (map ask (map start_of told)) (lists_of (map printed_at told))
  same_listed [] = refl
  same_listed (t ∷ told) = ap (λ (ls : List Listed). listed_at t ∷ ls) (same_listed told)

  -- what is true of each start is true of all
  pub all_true : (told : List T) (starts : List S) → map start_of told ≡ starts → All (λ t. IsTrueOf (listed_at t)) told
      → IsTrueListing (listed_of (map ask starts) (lists_of (map printed_at told)))
  all_true told starts are each =
      subst (λ (ss : List S). IsTrueListing (listed_of (map ask ss) (lists_of (map printed_at told)))) are
      (subst IsTrueListing (same_listed told) (All-map IsTrueOf listed_at told each))

  pub same_count : (size : T → ℕ) → ((t : T) → length (rows_of t) ≡ size t) → (told : List T)
      → row_count (lists_of (map printed_at told)) ≡ sum_by size told
  same_count size sizes [] = refl
  same_count size sizes (t ∷ told) =
      let a = sum_by-cons length (rows_of t) (lists_of (map printed_at told)) in
      let b = sum_by-cons size t told in
      omega (arith, a, b, sizes t, same_count size sizes told)

  -- they are read as they were printed
  pub lists_read : (told : List T) (starts : List S) (count : ℕ) → map start_of told ≡ starts
      → row_count (lists_of (map printed_at told)) ≡ count → ArePrintable (map printed_at told)
      → lists_from (origins_of (map ask starts))
      (lines_from 1 (map printed_at told) ++ end_line count) ≡ Ok (lists_of (map printed_at told))
  lists_read told starts count are counted h =
      let printed = map printed_at told in
      let origins = same_origins told ∙ ap (λ (ss : List S). origins_of (map ask ss)) are in
      ap (λ (n : ℕ). lists_from (origins_of (map ask starts)) (lines_from 1 printed ++ end_line n)) (sym counted)
      ∙ (ap (λ (os : List Origin). lists_from os (lines_from 1 printed ++ end_line (row_count (lists_of printed)))) (sym origins)
      ∙ printed_lists_read_back printed h)
