-- The lines of the rows of starts, as they are put together.
use Rattle.std.specs.Prelude.{◌≡◌, ◌++◌, ◌+◌, ◌-◌, ◌∷◌, [], List, None, Option, Some, length, ℕ}
use Rattle.box_gather.specs.Over.{IsGatheredOver, IsPartOver, IsWholeOver}
use Rattle.header_boxes.specs.declared.rows.Row.{Row}
use Rattle.ordered_cover.specs.declared.rows.Gathered.{Gathered}
use Rattle.vpc_base.specs.declared.headers.Header.{Header}
use Rattle.listing_text.specs.Texts.{told_lines_from}
use Rattle.listing_text.specs.Told.{AreToldAll, AreToldInPart, StartRows, Wanted, row_count}

-- what is gathered from a start in at most room rows
abbrev pub IsGatheredFrom : {Start Word : Type 0} → Wanted Start Word → Start → ℕ → Gathered Word → Type 0
IsGatheredFrom w start room = IsGatheredOver (w.word start) w.cuts (w.boxes start) room

-- a start's rows follow the lines that were there: all of them, or as many as there is room for and then the first header that they leave out
pub data IsAdded {Start Word : Type 0} (w : Wanted Start Word) (lines : ℕ → Start → List (Row Word) → List ℕ) (start : Start) (old_text : List ℕ) (old_count : ℕ) (old_next : Option (Start × Header)) (text : List ℕ) (count : ℕ) (next : Option (Start × Header)) : Type 0 where
  added_all : (rows : List (Row Word))
      → IsWholeOver (w.word start) w.cuts (w.boxes start) (w.max - old_count) rows
      → text ≡ old_text ++ lines (old_count + 1) start rows → count ≡ old_count + length rows → next ≡ old_next
      → IsAdded w lines start old_text old_count old_next text count next
  added_part : (rows : List (Row Word)) (h : Header)
      → IsPartOver (w.word start) w.cuts (w.boxes start) (w.max - old_count) rows h
      → text ≡ old_text ++ lines (old_count + 1) start rows → count ≡ old_count + length rows → next ≡ Some (start, h)
      → IsAdded w lines start old_text old_count old_next text count next

-- the lines of all starts; or of some, where rows are left out
pub data IsBody {Start Word : Type 0} (w : Wanted Start Word) (lines : ℕ → Start → List (Row Word) → List ℕ) (starts : List Start) (text : List ℕ) (count : ℕ) (next : Option (Start × Header)) : Type 0 where
  body_all : (told : List (StartRows Start Word)) → AreToldAll w starts told → text ≡ told_lines_from lines 1 told → count ≡ row_count told → next ≡ None
      → IsBody w lines starts text count next
  body_part : (told : List (StartRows Start Word)) (last : StartRows Start Word) (h : Header) → AreToldInPart w starts told last h
      → text ≡ told_lines_from lines 1 (told ++ last ∷ []) → next ≡ Some (last.start, h)
      → IsBody w lines starts text count next
