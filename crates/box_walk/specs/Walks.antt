-- Walks of all headers of a part.
use Rattle.std.specs.Prelude.{◌≡◌, [], true}
use Rattle.vpc_base.specs.Cuts.{AreAmong, CutLists}
use Rattle.vpc_base.specs.declared.headers.Header.{Header}
use Rattle.vpc_base.specs.declared.headers.Label.{Label}
use Rattle.vpc_base.specs.declared.headers.Label.TheVariants as labels
use Rattle.header_boxes.specs.Boxes.{holds, low_of}
use Rattle.header_boxes.specs.Cells.{IsAligned}
use Rattle.box_images.specs.Bodies.{IsBody}
use Rattle.box_images.specs.Images.{header_at}
use Rattle.box_steps.specs.Moments.{IsBoxMoment, moment_at, translations_at}
use Rattle.box_steps.specs.declared.moment.BoxMoment.{BoxMoment}
use Rattle.conn_tracking.specs.OnImages.{connections_at}
use Rattle.vpc_laws.specs.Types.{Description, Outcome}
use Rattle.vpc_model.specs.Appliances.{Appliances}
use Rattle.vpc_model.specs.Near.{cuts_of_hops}
use Rattle.vpc_model.specs.Walk.{Walk, walk_of}
use Rattle.vpc_model.specs.declared.outcomes.Outcome.TheVariants as outcomes
use Rattle.box_walk.specs.declared.walks.Ending.{Ending}
use Rattle.box_walk.specs.declared.walks.Ending.TheVariants as endings

-- how the walk of a header ends, which arrives with the header of the moment
abbrev pub outcome_at : Header → BoxMoment → Ending → Outcome
outcome_at h m (endings.Arrived end) = outcomes.Arrived end (header_at m.header h)
outcome_at h m (endings.Stopped s) = outcomes.Stopped s

-- a walk ends so, and leaves behind what the moment remembers
pub record IsWalkTo (w : Walk) (h : Header) (after : BoxMoment) (ending : Ending) : Type 0 where
  pub outcome : w.outcome ≡ outcome_at h after ending
  pub conns : w.conns ≡ connections_at h after.conns.items
  pub nats : w.nats ≡ translations_at h after.nats.items

-- the first walk of an open begins with nothing remembered
abbrev pub BeginsFresh : Label → BoxMoment → Type 0
BeginsFresh labels.Opening m = (m.conns.items ≡ []) × (m.nats.items ≡ [])
BeginsFresh labels.Answer m = Unit {0}

-- one walk for all headers of a body of the part, which is aligned to the cuts at the places of the low corner's walk
pub record IsWalkOn (d : Description) (appliances : Appliances) (label : Label) (old new : BoxMoment) (ending : Ending) : Type 0 where
  pub walk : (h : Header) → holds h new.header.part ≡ true → IsWalkTo (walk_of d appliances label (moment_at h old)) h new ending
  pub body : IsBody new.header.part old.header.part
  pub aligned : (cuts : CutLists) → AreAmong (cuts_of_hops d (walk_of d appliances label (moment_at (low_of old.header.part) old)).hops) cuts
      → IsAligned cuts new.header.part old.header.part
  pub moment : IsBoxMoment d label new
