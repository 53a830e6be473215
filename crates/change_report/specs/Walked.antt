-- Walks that are turned to one start after the other.
use Rattle.std.specs.Prelude.{◌≡◌, None}
use Rattle.journey_changes.specs.Sent.{Sent}
use Rattle.query_words.specs.declared.changes.ChangedEnd.{ChangedEnd}
use Rattle.changed_ends.specs.Asked.{Comparison}
use Rattle.change_report.specs.Told.{sent_after, sent_before}

-- a start that neither network has
abbrev pub nowhere : ChangedEnd
nowhere = record { before = None; after = None }

-- those of a question in each network, whatever start they were turned to
pub record AreWalksOf (c : Comparison) (before after : Sent) : Type 0 where
  pub before_is : record before { start = None } ≡ sent_before c nowhere
  pub after_is : record after { start = None } ≡ sent_after c nowhere
