-- Rows with words of any kind, and the same rows with the texts of the words.
use Rattle.std.proofs.Common.{◌≡◌, ◌≢◌, ◌∙◌, ◌||◌, ◌∷◌, [], All, Bool, List, None, Option, Some, ap, map, refl, subst, sym, true, ℕ}
use Rattle.std.specs.Option.{option_map}
use Rattle.std.proofs.lemmas.List.Elements.{All-contains, All-map}
use Rattle.std.proofs.lemmas.List.Folds.{list_any_at}
use Rattle.box_gather.specs.Over.{IsPartOf, IsWholeOver}
use Rattle.header_boxes.proofs.Held.{valid_if_within}
use Rattle.header_boxes.specs.Boxes.{AreDisjoint, holds}
use Rattle.header_boxes.specs.Rows.{HasWord, is_covered}
use Rattle.vpc_base.specs.Cuts.{CutLists}
use Rattle.vpc_base.proofs.Pairs.{AllPairs-map}
use Rattle.vpc_laws.specs.Types.{Box5, Header, Row}
use Rattle.report_reader.specs.Boxes.{is_inside}
use Rattle.report_reader.specs.ReadsBack.{Fits}
use Rattle.report_reader.proofs.ReadWords.{fits-within, is_inside-within}
use Rattle.listing_reader.specs.ReadsBack.{IsOneLine, IsPrintableRow}
use Rattle.listing_check.specs.Asked.{Asked, IsTrueOf}

-- the row with the text of its word
abbrev pub shown : {W : Type 0} → (W → List ℕ) → Row W → Row (List ℕ)
shown text row = record { part = row.part; word = text row.word }

abbrev pub all_shown : {W : Type 0} → (W → List ℕ) → List (Row W) → List (Row (List ℕ))
all_shown text rows = map (shown text) rows

-- ---- they say the same

covered-shown : {W : Type 0} (text : W → List ℕ) (rows : List (Row W)) (h : Header) → is_covered (all_shown text rows) h ≡ is_covered rows h
covered-shown text [] h = refl
covered-shown text (row ∷ rows) h = ap (λ (b : Bool). holds h row.part || b) (covered-shown text rows h)

told_text : {W : Type 0} (text : W → List ℕ) (told : Option W) (w : W) → told ≡ Some w → option_map text told ≡ Some (text w)
told_text text told w is = ap (option_map text) is

told_some : {W : Type 0} (text : W → List ℕ) (told : Option W) → option_map text told ≢ None → told ≢ None
told_some text told some is = some (ap (option_map text) is)

-- a start of which these texts are told
abbrev asked_as : {W : Type 0} → (Header → Option W) → List Box5 → (W → List ℕ) → List ℕ → (Header → List ℕ) → Asked
asked_as meaning boxes text id outcome = record { id = id; boxes = boxes; told = λ h. option_map text (meaning h); outcome = outcome }

-- rows that hold all that is told are a true listing of their texts
pub shown_is_true : {W : Type 0} (meaning : Header → Option W) (cuts : CutLists) (boxes : List Box5) (room : ℕ) (rows : List (Row W))
    (text : W → List ℕ) (id : List ℕ) (outcome : Header → List ℕ)
    → IsWholeOver meaning cuts boxes room rows
    → IsTrueOf (record { asked = asked_as meaning boxes text id outcome; rows = all_shown text rows })
shown_is_true {W = W} meaning cuts boxes room rows text id outcome whole = record {
  apart = AllPairs-map (λ (a b : Row (List ℕ)). AreDisjoint a.part b.part) (shown text) rows whole.rows_are.disjoint;
  words = All-map (HasWord (λ h. option_map text (meaning h))) (shown text) rows (words rows whole.rows_are.word);
  all = λ h inside told. covered-shown text rows h ∙ whole.holds_all h inside (told_some text (meaning h) told);
}
  where
    words : (rs : List (Row W)) → All (HasWord meaning) rs → All (λ r. HasWord (λ h. option_map text (meaning h)) (shown text r)) rs
    words rs all = λ k d within h inside. told_text text (meaning h) _ (all k d within h inside)

-- ---- they can be printed

shown_printable : {W : Type 0} (cuts : CutLists) (boxes : List Box5) (text : W → List ℕ) (row : Row W) → All Fits boxes
    → IsPartOf cuts boxes row.part → IsOneLine (text row.word) → IsPrintableRow boxes (shown text row)
shown_printable cuts boxes text row fit part line = record {
  told = line;
  valid = valid_if_within row.part part.whole part.within;
  fits = fits-within row.part part.whole part.within (All-contains Fits boxes part.whole fit part.among);
  asked = list_any_at (is_inside row.part) boxes part.among.0 part.whole part.among.1
      (subst (λ (b : Box5). is_inside row.part b ≡ true) (sym part.among.2) (is_inside-within row.part part.whole part.within));
}

pub all_shown_printable : {W : Type 0} (cuts : CutLists) (boxes : List Box5) (text : W → List ℕ) (rows : List (Row W)) → All Fits boxes
    → All (λ r. IsPartOf cuts boxes r.part) rows → ((w : W) → IsOneLine (text w))
    → All (IsPrintableRow boxes) (all_shown text rows)
all_shown_printable {W = W} cuts boxes text rows fit parts lines =
    All-map (IsPrintableRow boxes) (shown text) rows (λ k d within. shown_printable cuts boxes text _ fit (parts k d within) (lines _))
