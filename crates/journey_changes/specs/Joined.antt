-- What is asked in two networks, one after the other.
use Rattle.std.specs.Prelude.{◌≡◌, Ok, Option, true}
use Rattle.box_images.specs.Bodies.{IsBody}
use Rattle.header_boxes.specs.Boxes.{holds, low_of}
use Rattle.header_boxes.specs.Cells.{IsAligned}
use Rattle.header_boxes.specs.declared.boxes.Box5.{Box5}
use Rattle.vpc_base.specs.Cuts.{AreAmong, CutLists}
use Rattle.vpc_base.specs.declared.headers.Header.{Header}
use Rattle.vpc_laws.specs.Types.{End}
use Rattle.journey_changes.specs.Changes.{change_by, change_cuts}
use Rattle.journey_changes.specs.Sent.{Sent, fate, reached}
use Rattle.journey_changes.specs.declared.changes.Change.{Change}

-- what changes for requests that reach the end afterwards, by what becomes of them before
abbrev pub opened_at : Sent → Sent → End → Header → Option Change
opened_at before after end h = change_by before.network after.network (fate before h) (Ok end)

-- what changes for requests that reached the end before, by what becomes of them afterwards
abbrev pub closed_at : Sent → Sent → End → Header → Option Change
closed_at before after end h = change_by before.network after.network (Ok end) (fate after h)

-- all requests of a body of the sides reach one end in each network, or none
pub record ReachBoth (before after : Sent) (sides body : Box5) (e f : Option End) : Type 0 where
  pub first : (h : Header) → holds h body ≡ true → reached before h ≡ e
  pub second : (h : Header) → holds h body ≡ true → reached after h ≡ f
  pub inside : IsBody body sides
  pub aligned : (cuts : CutLists) → AreAmong (change_cuts before after (low_of sides)) cuts → IsAligned cuts body sides
