-- The rest of a walk for all headers of a part, by the places before it.
use Rattle.std.specs.Prelude.{◌≡◌, ◌≤◌, Bool, List, length, true, ℕ}
use Rattle.std.specs.List.{list_any}
use Rattle.vpc_base.specs.Cuts.{AreAmong, CutLists}
use Rattle.vpc_base.specs.declared.headers.Header.{Header}
use Rattle.vpc_base.specs.declared.headers.Label.{Label}
use Rattle.vpc_base.specs.declared.headers.Label.TheVariants as labels
use Rattle.header_boxes.specs.Boxes.{holds, low_of}
use Rattle.header_boxes.specs.Cells.{IsAligned}
use Rattle.box_images.specs.Bodies.{IsBody}
use Rattle.box_steps.specs.Moments.{IsBoxMoment, moment_at, remembers}
use Rattle.box_steps.specs.declared.moment.BoxMoment.{BoxMoment}
use Rattle.vpc_laws.specs.Types.{Description, Hop, Place}
use Rattle.vpc_laws.specs.Walk.{places_of}
use Rattle.vpc_model.specs.Appliances.{Appliances}
use Rattle.vpc_model.specs.Near.{cuts_of_hops}
use Rattle.vpc_model.specs.Step.Words.{Moment, go}
use Rattle.vpc_model.specs.Walk.{Walk, same_place, walk_on}
use Rattle.box_walk.specs.Walks.{IsWalkTo}
use Rattle.box_walk.specs.declared.walks.Ending.{Ending}

-- the place is one of these
abbrev pub is_among : List Place → Place → Bool
is_among places p = list_any (λ q. same_place q p) places

-- the walk from the place of a moment, with these hops behind it, and n places allowed
abbrev pub rest_of : Description → Appliances → Label → ℕ → List Hop → Moment → Walk
rest_of d appliances label n hops m = walk_on d appliances label n hops m.header (go m.place m.header) m.conns m.nats

-- what is remembered was left at these places
pub record WasLeftAt (places : List Place) (m : BoxMoment) : Type 0 where
  pub conns : length m.conns.items ≤ length places
  pub nats : length m.nats.items ≤ length places
  pub known : (p : Place) → remembers m p ≡ true → is_among places p ≡ true

-- by opens, which alone leave something behind
abbrev pub IsLeftAt : Label → List Place → BoxMoment → Type 0
IsLeftAt labels.Opening places m = WasLeftAt places m
IsLeftAt labels.Answer places m = Unit {0}

-- one rest of a walk for all headers of a body of the part, whatever hops at these places are behind it
pub record IsRestOn (d : Description) (appliances : Appliances) (label : Label) (n : ℕ) (places : List Place) (old new : BoxMoment) (ending : Ending) : Type 0 where
  pub walk : (h : Header) → holds h new.header.part ≡ true → (hops : List Hop) → places_of hops ≡ places
      → IsWalkTo (rest_of d appliances label n hops (moment_at h old)) h new ending
  pub body : IsBody new.header.part old.header.part
  pub aligned : (cuts : CutLists) (hops : List Hop) → places_of hops ≡ places
      → AreAmong (cuts_of_hops d (rest_of d appliances label n hops (moment_at (low_of old.header.part) old)).hops) cuts
      → IsAligned cuts new.header.part old.header.part
  pub moment : IsBoxMoment d label new
