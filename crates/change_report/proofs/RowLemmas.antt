-- Rows can be told.
use Rattle.std.proofs.Common.{◌≡◌, All, List, get_or, subst, sym, ℕ}
use Rattle.box_gather.specs.Over.{AreRowsOver, IsPartOf, IsPartOver, IsWholeOver}
use Rattle.header_boxes.proofs.Held.{holds_low, valid_if_within}
use Rattle.header_boxes.specs.Boxes.{low_of}
use Rattle.header_boxes.specs.declared.boxes.Box5.{Box5}
use Rattle.header_boxes.specs.declared.rows.Row.{Row}
use Rattle.journey_changes.proofs.Telling.{changes_are_tellable}
use Rattle.journey_changes.specs.Telling.{IsTellable}
use Rattle.journey_changes.specs.declared.changes.Change.{Change}
use Rattle.query_words.specs.ChangeQuery.{IsChangedEnd}
use Rattle.query_words.specs.declared.changes.ChangedEnd.{ChangedEnd}
use Rattle.vpc_laws.specs.Types.{Header}
use Rattle.vpc_model.specs.Accepted.{IsAccepted}
use Rattle.change_report.proofs.GatherLemmas.{sent_well_after, sent_well_before}
use Rattle.changed_ends.specs.Asked.{Comparison, HasEnds, boxes_at}
use Rattle.change_report.specs.Told.{change_in, cuts_in, sent_after, sent_before}

pub rows_are_tellable : (c : Comparison) (start : ChangedEnd) (boxes : List Box5) (rows : List (Row Change)) → IsAccepted c.before → IsAccepted c.after
    → HasEnds c → IsChangedEnd c.before c.after start → AreRowsOver (change_in c start) (cuts_in c) boxes rows
    → All (λ r. IsTellable c.before c.after r.word) rows
rows_are_tellable c start boxes rows first second ends there are k x below =
    let row = get_or rows k x in
    let part : IsPartOf (cuts_in c) boxes row.part = are.parts k x below in
    let low = low_of row.part in
    changes_are_tellable (sent_before c start) (sent_after c start) low row.word first second (sent_well_before c start ends there) (sent_well_after c start ends there)
    (are.word k x below low (holds_low row.part (valid_if_within row.part part.whole part.within)))

-- those that are gathered from a start, all or a part, as they are handed on
module _ (c : Comparison) (targets : List (ℕ × ℕ)) (start : ChangedEnd) (first : IsAccepted c.before) (second : IsAccepted c.after) (ends : HasEnds c) (there : IsChangedEnd c.before c.after start) where
  pub whole_is_tellable : (rows given : List (Row Change)) (room : ℕ) → given ≡ rows → IsWholeOver (change_in c start) (cuts_in c) (boxes_at c targets start) room rows
      → All (λ r. IsTellable c.before c.after r.word) given
  whole_is_tellable rows given room is k =
      subst (λ (l : List (Row Change)). All (λ r. IsTellable c.before c.after r.word) l) (sym is)
      (rows_are_tellable c start (boxes_at c targets start) rows first second ends there k.rows_are)

  pub part_is_tellable : (rows given : List (Row Change)) (next : Header) (room : ℕ) → given ≡ rows → IsPartOver (change_in c start) (cuts_in c) (boxes_at c targets start) room rows next
      → All (λ r. IsTellable c.before c.after r.word) given
  part_is_tellable rows given next room is k =
      subst (λ (l : List (Row Change)). All (λ r. IsTellable c.before c.after r.word) l) (sym is)
      (rows_are_tellable c start (boxes_at c targets start) rows first second ends there k.rows_are)
