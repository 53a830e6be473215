-- What is found of the starts so far.
use Rattle.std.specs.Prelude.{◌≡◌, ◌+◌, ◌<◌, All, List, MatchOption, None, Option, Some, length, take, ℕ}
use Rattle.vpc_base.specs.declared.headers.Header.{Header}
use Rattle.listing_check.specs.Asked.{AreApart, AreTrue, Asked, HoldAll, Listed}
use Rattle.listing_check.specs.Found.{IsUnlisted, IsUntrue, rows_before}
use Rattle.listing_check.specs.declared.found.Found.{Found}
use Rattle.listing_check.specs.declared.found.Found.TheVariants as found
use Rattle.listing_check.specs.declared.passed.Passed.{Passed}
use Rattle.listing_check.specs.declared.passed.LeftOut.{LeftOut}
use Rattle.listing_check.specs.declared.passed.UntrueRow.{UntrueRow}

-- before the first start
abbrev pub nothing_passed : Passed
nothing_passed = record { starts = 0; rows = 0; untrue = None; left_out = None }

-- what was found first stays; else what is found of a start with this number, after so many rows
abbrev pub untrue_after : Option UntrueRow → ℕ → ℕ → Option (ℕ × Header) → Option UntrueRow
untrue_after (Some row) start before untrue = Some row
untrue_after None start before None = None
untrue_after None start before (Some u) = Some (record { number = before + (u.0 + 1); start = start; header = u.1 })

abbrev pub left_out_after : Option LeftOut → ℕ → Option Header → Option LeftOut
left_out_after (Some request) start unlisted = Some request
left_out_after None start None = None
left_out_after None start (Some h) = Some (record { start = start; header = h })

-- what is found, where no two rows of a start share a header
abbrev pub found_of : Option UntrueRow → Option LeftOut → Found
found_of (Some row) unlisted = found.Untrue row.number row.start row.header
found_of None (Some request) = found.Unlisted request.start request.header
found_of None None = found.Yes

-- what is found of the first k starts
pub record ArePassed (listed : List Listed) (k : ℕ) (p : Passed) : Type 0 where
  pub starts : p.starts ≡ k
  pub rows : p.rows ≡ rows_before k listed
  pub apart : All AreApart (take k listed)
  pub untrue : MatchOption p.untrue (All AreTrue (take k listed)) (λ u. IsUntrue listed u.number u.start u.header)
  pub left_out : MatchOption p.left_out (All HoldAll (take k listed)) (λ u. IsUnlisted listed u.start u.header)

-- the start that is told of is one of those
abbrev pub NamesStart : List Asked → Found → Type 0
NamesStart asked found.Yes = Unit {0}
NamesStart asked (found.Overlap i j) = Unit {0}
NamesStart asked (found.Untrue i start h) = start < length asked
NamesStart asked (found.Unlisted start h) = start < length asked
