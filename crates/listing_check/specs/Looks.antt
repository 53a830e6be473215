-- What is asked about the requests of one start, and what a look at its rows finds.
use Rattle.std.specs.Prelude.{◌≡◌, [], All, List, MatchOption, None, Option, Some, true, ℕ}
use Rattle.box_gather.specs.Over.{IsFirstLeftOut}
use Rattle.box_survey.specs.Survey.{IsLeastOverlap}
use Rattle.header_boxes.specs.Boxes.{holds}
use Rattle.header_boxes.specs.declared.boxes.Box5.{Box5}
use Rattle.vpc_base.specs.declared.headers.Header.{Header}
use Rattle.header_boxes.specs.Rows.{HasWord}
use Rattle.header_boxes.specs.declared.rows.Row.{Row}
use Rattle.listing_check.specs.Asked.{AreApart, AreTrue, Asked, HoldAll, Listed}
use Rattle.listing_check.specs.Found.{IsFirstOther, IsFirstUntrueIn, boxes_of}
use Rattle.listing_check.specs.declared.looks.Look.{Look}
use Rattle.listing_check.specs.declared.looks.Look.TheVariants as looks

-- the first header of a box of which something else is told than is wanted, if there is one
abbrev pub IsOther : (Header → Option (List ℕ)) → Option (List ℕ) → Box5 → Option Header → Type 0
IsOther told wanted part None = (h : Header) → holds h part ≡ true → told h ≡ wanted
IsOther told wanted part (Some h) = IsFirstOther told wanted part h

-- two rows that share a header; or none do, and the first row that isn't true and the first request that is left out, if there are any
abbrev pub IsLook : Listed → Look → Type 0
IsLook l (looks.Overlap i j) = IsLeastOverlap (boxes_of l.rows) i j
IsLook l (looks.Apart untrue unlisted) =
    AreApart l
    × (MatchOption untrue (AreTrue l) (λ u. IsFirstUntrueIn l u.0 u.1)
    × MatchOption unlisted (HoldAll l) (λ h. let asked = l.asked in IsFirstLeftOut asked.told asked.boxes l.rows h))

-- a start of which no more is known than what is told of the requests in these boxes
abbrev pub asked_by : (Header → Option (List ℕ)) → List Box5 → Asked
asked_by told boxes = record { id = []; boxes = boxes; told = told; outcome = λ h. [] }

-- its rows
abbrev pub listed_by : (Header → Option (List ℕ)) → List Box5 → List (Row (List ℕ)) → Listed
listed_by told boxes rows = record { asked = asked_by told boxes; rows = rows }

-- the first row that isn't true of all its headers, if there is one
abbrev pub IsRowSearch : (Header → Option (List ℕ)) → List (Row (List ℕ)) → Option (ℕ × Header) → Type 0
IsRowSearch told rows untrue =
    MatchOption untrue (All (HasWord told) rows) (λ u. IsFirstUntrueIn (listed_by told [] rows) u.0 u.1)

-- what a look finds of rows that share no header, where this request is left out
abbrev pub IsApartLook : (Header → Option (List ℕ)) → List (Row (List ℕ)) → Option Header → Look → Type 0
IsApartLook told rows unlisted (looks.Overlap i j) = ⊥
IsApartLook told rows unlisted (looks.Apart untrue left_out) = IsRowSearch told rows untrue × (left_out ≡ unlisted)
