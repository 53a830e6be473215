-- The rows of a start, as they are handed on.
use Rattle.std.proofs.Common.{◌≡◌, ◌+◌, ◌-◌, ◌++◌, ◌∙◌, List, ap, length, subst, ℕ}
use Rattle.box_gather.specs.Over.{IsPartOver, IsWholeOver}
use Rattle.header_boxes.specs.declared.rows.Row.{Row}
use Rattle.journey_changes.specs.declared.changes.Change.{Change}
use Rattle.query_words.specs.declared.changes.ChangedEnd.{ChangedEnd}
use Rattle.vpc_laws.specs.Types.{Header}
use Rattle.changed_ends.specs.Asked.{Comparison, boxes_at}
use Rattle.change_report.specs.Texts.{lines_at}
use Rattle.change_report.specs.Told.{change_in, cuts_in}

-- asked for in as many as are still asked for
module _ (c : Comparison) (targets : List (ℕ × ℕ)) (start : ChangedEnd) (rows : List (Row Change)) (room count : ℕ) (is : room ≡ c.query.pairs.max - count) where
  pub whole-room : IsWholeOver (change_in c start) (cuts_in c) (boxes_at c targets start) room rows
      → IsWholeOver (change_in c start) (cuts_in c) (boxes_at c targets start) (c.query.pairs.max - count) rows
  whole-room k = subst (λ (n : ℕ). IsWholeOver (change_in c start) (cuts_in c) (boxes_at c targets start) n rows) is k

  pub part-room : (next : Header) → IsPartOver (change_in c start) (cuts_in c) (boxes_at c targets start) room rows next
      → IsPartOver (change_in c start) (cuts_in c) (boxes_at c targets start) (c.query.pairs.max - count) rows next
  part-room next k = subst (λ (n : ℕ). IsPartOver (change_in c start) (cuts_in c) (boxes_at c targets start) n rows next) is k

module _ (c : Comparison) (start : ChangedEnd) (rows given : List (Row Change)) (is : given ≡ rows) (old text : List ℕ) (old_count count : ℕ) where
  pub lines-same : text ≡ old ++ lines_at c (old_count + 1) start given → text ≡ old ++ lines_at c (old_count + 1) start rows
  lines-same h = h ∙ ap (λ (l : List (Row Change)). old ++ lines_at c (old_count + 1) start l) is

  pub count-same : count ≡ old_count + length given → count ≡ old_count + length rows
  count-same h = h ∙ ap (λ (l : List (Row Change)). old_count + length l) is
