-- What is found of several starts.
use Rattle.std.proofs.Common.{◌+◌, ◌<◌, ◌≡◌, ◌≤◌, ◌∙◌, All, List, None, Option, Some, ap, arith, get_or, length, refl, slice_get, subst, sym, take, ℕ}
use Rattle.std.specs.Option.{IfSome, MatchOption}
use Rattle.std.proofs.lemmas.List.Elements.{All-more}
use Rattle.std.proofs.lemmas.Option.{get_or_from_slice_get, slice_get_within}
use Rattle.box_gather.specs.Over.{IsFirstLeftOut}
use Rattle.report_check.proofs.Boxes.{overlap-below}
use Rattle.vpc_base.specs.declared.headers.Header.{Header}
use Rattle.header_boxes.specs.declared.rows.Row.{Row}
use Rattle.listing_check.proofs.Counted.{IsLookAt, Sees, item_is, looked_at, rows-next, rows-upto}
use Rattle.listing_check.specs.Asked.{AreApart, AreTrue, Asked, HoldAll, Listed, listed_of}
use Rattle.listing_reader.specs.Listings.{row_count}
use Rattle.report_reader.specs.Reports.{row_limit}
use Rattle.listing_check.specs.Found.{IsFirstUntrueIn, IsFound, IsOverlap, IsUnlisted, IsUntrue, rows_before}
use Rattle.listing_check.specs.Looks.{IsLook}
use Rattle.listing_check.specs.Passed.{ArePassed, found_of, left_out_after, nothing_passed, untrue_after}
use Rattle.listing_check.specs.declared.looks.Look.{Look}
use Rattle.listing_check.specs.declared.looks.Look.TheVariants as looks
use Rattle.listing_check.specs.declared.passed.LeftOut.{LeftOut}
use Rattle.listing_check.specs.declared.passed.Passed.{Passed}
use Rattle.listing_check.specs.declared.passed.UntrueRow.{UntrueRow}

-- ---- none

all_of_none : (P : Listed → Type 0) (listed : List Listed) → All P (take 0 listed)
all_of_none P listed k d below = absurd (omega (arith, below))

pub none_passed : (listed : List Listed) → ArePassed listed 0 nothing_passed
none_passed listed = record {
  starts = refl;
  rows = refl;
  apart = all_of_none AreApart listed;
  untrue = all_of_none AreTrue listed;
  left_out = all_of_none HoldAll listed;
}

-- ---- numbers of rows

-- there is room for the number of a row that isn't true
pub room_more : (before rows : ℕ) (untrue : Option (ℕ × Header)) → before + rows ≤ row_limit → IfSome untrue (λ u. u.0 < rows) → IfSome untrue (λ u. before + (u.0 + 1) ≤ row_limit)
room_more before rows None room below = tt
room_more before rows (Some u) room below = omega (arith, room, below)

pub room_at : (before : ℕ) (untrue : Option (ℕ × Header)) (u : ℕ × Header) → untrue ≡ Some u → IfSome untrue (λ v. before + (v.0 + 1) ≤ row_limit) → before + (u.0 + 1) ≤ row_limit
room_at before None u is room = absurd (cc)
room_at before (Some v) u is room = let same : v ≡ u = cc in subst (λ (w : ℕ × Header). before + (w.0 + 1) ≤ row_limit) same room

-- ---- one more

all_more : (P : Listed → Type 0) (listed : List Listed) (k : ℕ) (l : Listed) → slice_get listed k ≡ Some l → All P (take k listed) → P l → All P (take (k + 1) listed)
all_more P listed k l stands before here =
    All-more P listed k l (slice_get_within listed k l stands) before (subst P (sym (get_or_from_slice_get listed k l l stands)) here)

abbrev Untrues : List Listed → ℕ → Option UntrueRow → Type 0
Untrues listed k found = MatchOption found (All AreTrue (take k listed)) (λ u. IsUntrue listed u.number u.start u.header)

untrue_more : (listed : List Listed) (k : ℕ) (l : Listed) (found : Option UntrueRow) (untrue : Option (ℕ × Header)) → slice_get listed k ≡ Some l → Untrues listed k found
    → MatchOption untrue (AreTrue l) (λ u. IsFirstUntrueIn l u.0 u.1) → Untrues listed (k + 1) (untrue_after found k (rows_before k listed) untrue)
untrue_more listed k l (Some row) untrue stands before here = before
untrue_more listed k l None None stands before here = all_more AreTrue listed k l stands before here
untrue_more listed k l None (Some u) stands before here = record { l = l; stands = stands; number = u.0; number_is = refl; untrue = here; before = before }

abbrev LeftOuts : List Listed → ℕ → Option LeftOut → Type 0
LeftOuts listed k found = MatchOption found (All HoldAll (take k listed)) (λ u. IsUnlisted listed u.start u.header)

left_out_more : (listed : List Listed) (k : ℕ) (l : Listed) (found : Option LeftOut) (unlisted : Option Header) → slice_get listed k ≡ Some l → LeftOuts listed k found
    → MatchOption unlisted (HoldAll l) (λ h. let asked = l.asked in IsFirstLeftOut asked.told asked.boxes l.rows h) → LeftOuts listed (k + 1) (left_out_after found k unlisted)
left_out_more listed k l (Some request) unlisted stands before here = before
left_out_more listed k l None None stands before here = all_more HoldAll listed k l stands before here
left_out_more listed k l None (Some h) stands before here = record { l = l; stands = stands; left_out = here; before = before }

passed_more : (listed : List Listed) (k : ℕ) (l : Listed) (p q : Passed) (untrue : Option (ℕ × Header)) (unlisted : Option Header) → slice_get listed k ≡ Some l
    → ArePassed listed k p → IsLook l (looks.Apart untrue unlisted)
    → q.starts ≡ p.starts + 1 → q.rows ≡ rows_before (k + 1) listed → q.untrue ≡ untrue_after p.untrue p.starts p.rows untrue → q.left_out ≡ left_out_after p.left_out p.starts unlisted
    → ArePassed listed (k + 1) q
passed_more listed k l p q untrue unlisted stands passed look starts_are rows_are untrue_is left_out_is =
    let starts = passed.starts in
    let untrue_now = untrue_is ∙ (ap (λ (s : ℕ). untrue_after p.untrue s p.rows untrue) passed.starts ∙ ap (λ (n : ℕ). untrue_after p.untrue k n untrue) passed.rows) in
    let left_out_now = left_out_is ∙ ap (λ (s : ℕ). left_out_after p.left_out s unlisted) passed.starts in
    record {
      starts = omega (arith, starts_are, starts);
      rows = rows_are;
      apart = all_more AreApart listed k l stands passed.apart look.0;
      untrue = subst (Untrues listed (k + 1)) (sym untrue_now) (untrue_more listed k l p.untrue untrue stands passed.untrue look.1.0);
      left_out = subst (LeftOuts listed (k + 1)) (sym left_out_now) (left_out_more listed k l p.left_out unlisted stands passed.left_out look.1.1);
    }

-- two of its rows share a header
overlap_at : (listed : List Listed) (k : ℕ) (l : Listed) (p : Passed) (i j : ℕ) → slice_get listed k ≡ Some l → ArePassed listed k p → IsLook l (looks.Overlap i j)
    → IsOverlap listed (p.rows + (i + 1)) (p.rows + (j + 1))
overlap_at listed k l p i j stands passed look = record {
  start = k;
  l = l;
  stands = stands;
  first = i;
  second = j;
  first_is = ap (λ (n : ℕ). n + (i + 1)) passed.rows;
  second_is = ap (λ (n : ℕ). n + (j + 1)) passed.rows;
  least = look;
  before = passed.apart;
}

-- ---- all

found_is : (listed : List Listed) (untrue : Option UntrueRow) (left_out : Option LeftOut) → All AreApart listed
    → MatchOption untrue (All AreTrue listed) (λ u. IsUntrue listed u.number u.start u.header)
    → MatchOption left_out (All HoldAll listed) (λ u. IsUnlisted listed u.start u.header)
    → IsFound listed (found_of untrue left_out)
found_is listed (Some row) left_out apart untrue unlisted = (apart, untrue)
found_is listed None (Some request) apart untrue unlisted = (apart, (untrue, unlisted))
found_is listed None None apart untrue unlisted = λ k d below. record { apart = apart k d below; words = untrue k d below; all = unlisted k d below }

pub found_if_passed : (listed : List Listed) (k : ℕ) (p : Passed) → take k listed ≡ listed → ArePassed listed k p → IsFound listed (found_of p.untrue p.left_out)
found_if_passed listed k p all passed =
    found_is listed p.untrue p.left_out (subst (All AreApart) all passed.apart)
    (subst (λ (ls : List Listed). MatchOption p.untrue (All AreTrue ls) (λ u. IsUntrue listed u.number u.start u.header)) all passed.untrue)
    (subst (λ (ls : List Listed). MatchOption p.left_out (All HoldAll ls) (λ u. IsUnlisted listed u.start u.header)) all passed.left_out)

-- ---- a look at one more

-- a look at the rows of the next start, and that there is room for their numbers
pub record IsStep (starts : List Listed) (k : ℕ) (p : Passed) (rows : List (Row (List ℕ))) (look : Look) : Type 0 where
  pub at : IsLookAt starts k rows look
  pub room : p.rows + length rows ≤ row_limit

pub step_at : (asked : List Asked) (lists : List (List (Row (List ℕ)))) (k : ℕ) (p : Passed) (list rows : List (Row (List ℕ))) (seen look : Look)
    → length lists ≡ length asked → row_count lists ≤ row_limit → k < length lists → rows ≡ list → list ≡ get_or lists k list → ArePassed (listed_of asked lists) k p
    → Sees asked p.starts rows seen → seen ≡ look → IsStep (listed_of asked lists) k p rows look
step_at asked lists k p list rows seen look count few below lent is passed found same =
    let item = item_is lists k list rows below lent is in
    let upto = rows-upto asked lists k rows count below item few in
    let before = passed.rows in
    record {
      at = looked_at asked lists k p.starts rows look count below item passed.starts (subst (Sees asked p.starts rows) same found);
      room = omega (arith, upto, before);
    }

-- the numbers of two rows that share a header
pub overlap_room : (starts : List Listed) (k : ℕ) (p : Passed) (rows : List (Row (List ℕ))) (i j : ℕ) → IsStep starts k p rows (looks.Overlap i j)
    → (p.rows + (i + 1) ≤ row_limit) × (p.rows + (j + 1) ≤ row_limit)
overlap_room starts k p rows i j step =
    let at = step.at in
    let l = at.l in
    let look = at.look_is in
    let second = overlap-below l.rows i j look in
    let first = look.below in
    let same = ap length at.rows_are in
    let room = step.room in
    (omega (arith, first, second, same, room), omega (arith, second, same, room))

-- the number of a row that isn't true
pub untrue_room : (starts : List Listed) (k : ℕ) (p : Passed) (rows : List (Row (List ℕ))) (untrue : Option (ℕ × Header)) (unlisted : Option Header)
    → IsStep starts k p rows (looks.Apart untrue unlisted) → IfSome untrue (λ u. u.0 < length rows)
untrue_room starts k p rows None unlisted step = tt
untrue_room starts k p rows (Some u) unlisted step =
    let at = step.at in
    let l = at.l in
    let is = at.look_is.1.0 in
    let below = slice_get_within l.rows u.0 is.row is.stands in
    let same = ap length at.rows_are in
    omega (arith, below, same)

pub passed_step : (starts : List Listed) (k : ℕ) (p q : Passed) (rows : List (Row (List ℕ))) (untrue : Option (ℕ × Header)) (unlisted : Option Header) → ArePassed starts k p
    → IsStep starts k p rows (looks.Apart untrue unlisted) → q.starts ≡ p.starts + 1 → q.rows ≡ p.rows + length rows
    → q.untrue ≡ untrue_after p.untrue p.starts p.rows untrue → q.left_out ≡ left_out_after p.left_out p.starts unlisted → ArePassed starts (k + 1) q
passed_step starts k p q rows untrue unlisted passed step starts_are rows_are untrue_is left_out_is =
    let at = step.at in
    let l = at.l in
    let next = rows-next starts k l at.stands in
    let same = ap length at.rows_are in
    let before = passed.rows in
    passed_more starts k l p q untrue unlisted at.stands passed at.look_is starts_are (omega (arith, rows_are, next, same, before)) untrue_is left_out_is

pub overlap_step : (starts : List Listed) (k : ℕ) (p : Passed) (rows : List (Row (List ℕ))) (i j : ℕ) → ArePassed starts k p → IsStep starts k p rows (looks.Overlap i j)
    → IsOverlap starts (p.rows + (i + 1)) (p.rows + (j + 1))
overlap_step starts k p rows i j passed step = let at = step.at in overlap_at starts k at.l p i j at.stands passed at.look_is
