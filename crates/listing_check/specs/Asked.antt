-- What is asked of a start, and what a listing says of it.
use Rattle.std.specs.Prelude.{◌≡◌, ◌≢◌, ◌∷◌, [], All, AllPairs, List, Option, None, true, ℕ}
use Rattle.box_gather.specs.Over.{is_in}
use Rattle.header_boxes.specs.Boxes.{AreDisjoint}
use Rattle.header_boxes.specs.Rows.{HasWord, is_covered}
use Rattle.header_boxes.specs.declared.boxes.Box5.{Box5}
use Rattle.header_boxes.specs.declared.rows.Row.{Row}
use Rattle.vpc_base.specs.declared.headers.Header.{Header}

-- a start with its id, the boxes of requests that are asked for, what a listing has to tell of each request, if anything, and
-- what becomes of it, as a text for the reader
pub record Asked : Type 0 where
  pub id : List ℕ
  pub boxes : List Box5
  pub told : Header → Option (List ℕ)
  pub outcome : Header → List ℕ

-- a start with the rows that a listing has of it
pub record Listed : Type 0 where
  pub asked : Asked
  pub rows : List (Row (List ℕ))

-- each start with its rows
abbrev pub listed_of : List Asked → List (List (Row (List ℕ))) → List Listed
listed_of [] lists = []
listed_of (asked ∷ others) [] = []
listed_of (asked ∷ others) (rows ∷ lists) = record { asked = asked; rows = rows } ∷ listed_of others lists

-- ---- the truth

-- no two rows share a header
abbrev pub AreApart : Listed → Type 0
AreApart l = AllPairs (λ a b. AreDisjoint a.part b.part) l.rows

-- of each request of a row is told what the row says
abbrev pub AreTrue : Listed → Type 0
AreTrue l = let asked = l.asked in All (HasWord asked.told) l.rows

-- each request that is asked for, and of which something is told, is in a row
abbrev pub HoldAll : Listed → Type 0
HoldAll l = let asked = l.asked in (h : Header) → is_in asked.boxes h ≡ true → asked.told h ≢ None → is_covered l.rows h ≡ true

-- what the listing says of a start is true, and all that is to be told
pub record IsTrueOf (l : Listed) : Type 0 where
  pub apart : AreApart l
  pub words : AreTrue l
  pub all : HoldAll l

-- of each start
abbrev pub IsTrueListing : List Listed → Type 0
IsTrueListing listed = All IsTrueOf listed
