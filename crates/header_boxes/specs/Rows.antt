-- Rows of boxes, over a meaning that gives each header a word or lets it through.
use Rattle.std.specs.Prelude.{◌≡◌, ◌≢◌, Bool, true, false, List, Option, Some, None, All, AllPairs}
use Rattle.std.specs.List.{list_any}
use Rattle.vpc_base.specs.Header.{IsBefore}
use Rattle.vpc_base.specs.Cuts.{CutLists}
use Rattle.vpc_base.specs.declared.headers.Header.{Header}
use Rattle.header_boxes.specs.Boxes.{holds, IsWithin, AreDisjoint, low_of}
use Rattle.header_boxes.specs.Cells.{IsAligned}
use Rattle.header_boxes.specs.declared.boxes.Box5.{Box5}
use Rattle.header_boxes.specs.declared.rows.Row.{Row}

-- ---- which headers get through

-- the first header of the whole that gets through
pub record IsFirstThrough {W : Type 0} (meaning : Header → Option W) (whole : Box5) (h : Header) : Type 0 where
  pub inside : holds h whole ≡ true
  pub through : meaning h ≡ None
  pub first : (k : Header) → holds k whole ≡ true → IsBefore k h → meaning k ≢ None

-- no header of the whole gets through
abbrev pub NoneThrough : {W : Type 0} → (Header → Option W) → Box5 → Type 0
NoneThrough meaning whole = (h : Header) → holds h whole ≡ true → meaning h ≢ None

-- the first header that gets through, if there is one
abbrev pub IsFirst : {W : Type 0} → (Header → Option W) → Box5 → Option Header → Type 0
IsFirst meaning whole None = NoneThrough meaning whole
IsFirst meaning whole (Some h) = IsFirstThrough meaning whole h

-- ---- true rows

-- all headers of the row have its word
abbrev pub HasWord : {W : Type 0} → (Header → Option W) → Row W → Type 0
HasWord meaning r = (h : Header) → holds h r.part ≡ true → meaning h ≡ Some r.word

-- the header is in some row
abbrev pub is_covered : {W : Type 0} → List (Row W) → Header → Bool
is_covered rows h = list_any (λ r. holds h r.part) rows

-- valid, disjoint boxes in the whole, each with the word of all its headers; in any order, cut anywhere
pub record AreTrueRows {W : Type 0} (meaning : Header → Option W) (whole : Box5) (rows : List (Row W)) : Type 0 where
  pub within : All (λ r. IsWithin r.part whole) rows
  pub disjoint : AllPairs (λ a b. AreDisjoint a.part b.part) rows
  pub word : All (HasWord meaning) rows

-- the rows ascend by low corner, and each box is aligned to the cuts
pub record AreOrdered {W : Type 0} (cuts : CutLists) (whole : Box5) (rows : List (Row W)) : Type 0 where
  pub ascending : AllPairs (λ a b. IsBefore (low_of a.part) (low_of b.part)) rows
  pub aligned : All (λ r. IsAligned cuts r.part whole) rows

-- ---- reports

-- every header of the whole is in some row
abbrev pub AreWhole : {W : Type 0} → Box5 → List (Row W) → Type 0
AreWhole whole rows = (h : Header) → holds h whole ≡ true → is_covered rows h ≡ true

-- a true report: true rows that hold every header of the whole
pub record IsTrueReport {W : Type 0} (meaning : Header → Option W) (whole : Box5) (rows : List (Row W)) : Type 0 where
  pub are_true : AreTrueRows meaning whole rows
  pub holds_all : AreWhole whole rows

-- the first header of the whole in no row
pub record IsFirstOutside {W : Type 0} (whole : Box5) (rows : List (Row W)) (h : Header) : Type 0 where
  pub inside : holds h whole ≡ true
  pub outside : is_covered rows h ≡ false
  pub first : (k : Header) → holds k whole ≡ true → IsBefore k h → is_covered rows k ≡ true
