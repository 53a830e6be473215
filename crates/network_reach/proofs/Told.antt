-- Rows whose words are told in other words.
use Rattle.std.proofs.Common.{◌≡◌, ◌≢◌, true, List, Option, None, sym, ap, ◌∙◌, map}
use Rattle.std.specs.List.{All}
use Rattle.std.specs.Prelude.{option_map, slice_index_or}
use Rattle.std.proofs.lemmas.List.Elements.{All-map}
use Rattle.vpc_base.specs.Cuts.{CutLists}
use Rattle.vpc_base.specs.Header.{IsBefore}
use Rattle.vpc_base.specs.declared.headers.Header.{Header}
use Rattle.vpc_base.proofs.Options.{option_map-None}
use Rattle.vpc_base.proofs.Pairs.{AllPairs-map}
use Rattle.vpc_base.proofs.Tests.{list_any-map}
use Rattle.header_boxes.specs.Boxes.{AreDisjoint, IsWithin, holds, low_of}
use Rattle.header_boxes.specs.Cells.{IsAligned}
use Rattle.header_boxes.specs.Rows.{AreOrdered, AreTrueRows, AreWhole, HasWord, IsFirstOutside, IsFirstThrough, NoneThrough, is_covered}
use Rattle.header_boxes.specs.declared.boxes.Box5.{Box5}
use Rattle.header_boxes.specs.declared.rows.Row.{Row}
use Rattle.header_boxes.proofs.BoxLaws.{within_holds}

-- each header of the box has the told word
abbrev pub Tells : {V W : Type 0} → (V → W) → (Header → Option V) → (Header → Option W) → Box5 → Type 0
Tells tell word meaning box = (h : Header) → holds h box ≡ true → meaning h ≡ option_map tell (word h)

-- the row with its told word
abbrev pub told_row : {V W : Type 0} → (V → W) → Row V → Row W
told_row tell r = record { part = r.part; word = tell r.word }

-- ---- headers that get through

still_stopped : {V W : Type 0} (tell : V → W) (word : Header → Option V) (meaning : Header → Option W) (box : Box5) → Tells tell word meaning box
    → (h : Header) → holds h box ≡ true → word h ≢ None → meaning h ≢ None
still_stopped tell word meaning box tells h held some e = some (option_map-None tell (word h) (sym (tells h held) ∙ e))

pub first_told : {V W : Type 0} (tell : V → W) (word : Header → Option V) (meaning : Header → Option W) (box : Box5) (h : Header) → Tells tell word meaning box
    → IsFirstThrough word box h → IsFirstThrough meaning box h
first_told tell word meaning box h tells found = record {
  inside = found.inside;
  through = tells h found.inside ∙ ap (option_map tell) found.through;
  first = λ k held before. still_stopped tell word meaning box tells k held (found.first k held before);
}

pub none_through_told : {V W : Type 0} (tell : V → W) (word : Header → Option V) (meaning : Header → Option W) (box : Box5) → Tells tell word meaning box
    → NoneThrough word box → NoneThrough meaning box
none_through_told tell word meaning box tells none h held = still_stopped tell word meaning box tells h held (none h held)

-- ---- rows

has_word : {V W : Type 0} (tell : V → W) (word : Header → Option V) (meaning : Header → Option W) (box : Box5) → Tells tell word meaning box
    → (row : Row V) → IsWithin row.part box → HasWord word row → HasWord meaning (told_row tell row)
has_word tell word meaning box tells row within has h held = tells h (within_holds row.part box h within held) ∙ ap (option_map tell) (has h held)

pub true_told : {V W : Type 0} (tell : V → W) (word : Header → Option V) (meaning : Header → Option W) (box : Box5) (rows : List (Row V)) → Tells tell word meaning box
    → AreTrueRows word box rows → AreTrueRows meaning box (map (told_row tell) rows)
true_told {W = W} tell word meaning box rows tells are = record {
  within = All-map (λ (r : Row W). IsWithin r.part box) (told_row tell) rows are.within;
  disjoint = AllPairs-map (λ (a b : Row W). AreDisjoint a.part b.part) (told_row tell) rows are.disjoint;
  word = All-map (HasWord meaning) (told_row tell) rows (λ k x below. has_word tell word meaning box tells (slice_index_or rows k x) (are.within k x below) (are.word k x below));
}

-- they stay ordered
pub ordered_told : {V W : Type 0} (tell : V → W) (box : Box5) (cuts : CutLists) (rows : List (Row V)) → AreOrdered cuts box rows → AreOrdered cuts box (map (told_row tell) rows)
ordered_told {W = W} tell box cuts rows are = record {
  ascending = AllPairs-map (λ (a b : Row W). IsBefore (low_of a.part) (low_of b.part)) (told_row tell) rows are.ascending;
  aligned = All-map (λ (r : Row W). IsAligned cuts r.part box) (told_row tell) rows are.aligned;
}

pub begun_told : {V W : Type 0} (tell : V → W) (next : Header) (rows : List (Row V)) → All (λ r. IsBefore (low_of r.part) next) rows → All (λ r. IsBefore (low_of r.part) next) (map (told_row tell) rows)
begun_told {W = W} tell next rows begun = All-map (λ (r : Row W). IsBefore (low_of r.part) next) (told_row tell) rows begun

-- ---- what the rows hold

covered_told : {V W : Type 0} (tell : V → W) (rows : List (Row V)) (h : Header) → is_covered (map (told_row tell) rows) h ≡ is_covered rows h
covered_told {W = W} tell rows h = list_any-map (λ (r : Row W). holds h r.part) (told_row tell) rows

pub whole_told : {V W : Type 0} (tell : V → W) (box : Box5) (rows : List (Row V)) → AreWhole box rows → AreWhole box (map (told_row tell) rows)
whole_told tell box rows whole h held = covered_told tell rows h ∙ whole h held

pub outside_told : {V W : Type 0} (tell : V → W) (box : Box5) (rows : List (Row V)) (h : Header) → IsFirstOutside box rows h → IsFirstOutside box (map (told_row tell) rows) h
outside_told tell box rows h is = record {
  inside = is.inside;
  outside = covered_told tell rows h ∙ is.outside;
  first = λ k held before. covered_told tell rows k ∙ is.first k held before;
}
