-- Walks of opens that are given up where they can no longer arrive at the goal.
use Rattle.std.specs.Prelude.{◌≡◌, Bool, List, None, Option, Some, false, true, ℕ}
use Rattle.vpc_base.specs.Cuts.{AreAmong, CutLists}
use Rattle.vpc_base.specs.declared.headers.Label.TheVariants as labels
use Rattle.header_boxes.specs.Boxes.{holds, low_of}
use Rattle.header_boxes.specs.Cells.{IsAligned}
use Rattle.box_images.specs.Bodies.{IsBody}
use Rattle.box_steps.specs.Missing.{misses_at}
use Rattle.box_steps.specs.Moments.{moment_at}
use Rattle.box_steps.specs.declared.moment.BoxMoment.{BoxMoment}
use Rattle.vpc_laws.specs.Types.{Box5, Description, End, Header, Hop, Outcome, Place}
use Rattle.vpc_laws.specs.Walk.{places_of}
use Rattle.vpc_model.specs.Appliances.{Appliances}
use Rattle.vpc_model.specs.Near.{cuts_of_hops}
use Rattle.vpc_model.specs.Step.Words.{Moment}
use Rattle.vpc_model.specs.Verdict.{same_end}
use Rattle.vpc_model.specs.Walk.{walk_of}
use Rattle.vpc_model.specs.declared.outcomes.Outcome.TheVariants as outcomes
use Rattle.box_walk.specs.Rests.{IsRestOn, rest_of}
use Rattle.box_walk.specs.Walks.{IsWalkOn}
use Rattle.box_walk.specs.declared.walks.Ending.TheVariants as endings

-- a walk that ends so has arrived at the goal
abbrev pub arrives_at : End → Outcome → Bool
arrives_at goal (outcomes.Arrived end h) = same_end end goal
arrives_at goal (outcomes.Stopped s) = false

-- an open that misses the goal by the step at a moment doesn't arrive there, whatever hops are behind it
abbrev pub MissesNeverArrive : Type 0
MissesNeverArrive =
    (d : Description) (appliances : Appliances) (goal : End) (n : ℕ) (hops : List Hop) (m : Moment) → misses_at d appliances goal m ≡ true
    → let w = rest_of d appliances labels.Opening n hops m in arrives_at goal w.outcome ≡ false

-- ---- the rest of a walk, by the places before it

-- for no header of a body of the part it arrives at the goal, whatever hops at these places are behind it
pub record IsRestMissed (d : Description) (appliances : Appliances) (goal : End) (n : ℕ) (places : List Place) (old : BoxMoment) (body : Box5) : Type 0 where
  pub misses : (h : Header) → holds h body ≡ true → (hops : List Hop) → places_of hops ≡ places
      → let w = rest_of d appliances labels.Opening n hops (moment_at h old) in arrives_at goal w.outcome ≡ false
  pub inside : IsBody body old.header.part
  pub aligned : (cuts : CutLists) (hops : List Hop) → places_of hops ≡ places
      → AreAmong (cuts_of_hops d (rest_of d appliances labels.Opening n hops (moment_at (low_of old.header.part) old)).hops) cuts
      → IsAligned cuts body old.header.part

-- for all headers of the later moment it arrives at one end, or for none of them at the goal
abbrev pub IsRestSought : Description → Appliances → End → ℕ → List Place → BoxMoment → BoxMoment → Option End → Type 0
IsRestSought d appliances goal n places old new (Some end) = IsRestOn d appliances labels.Opening n places old new (endings.Arrived end)
IsRestSought d appliances goal n places old new None = IsRestMissed d appliances goal n places old new.header.part

-- ---- whole walks

pub record IsWalkMissed (d : Description) (appliances : Appliances) (goal : End) (old : BoxMoment) (body : Box5) : Type 0 where
  pub misses : (h : Header) → holds h body ≡ true → let w = walk_of d appliances labels.Opening (moment_at h old) in arrives_at goal w.outcome ≡ false
  pub inside : IsBody body old.header.part
  pub aligned : (cuts : CutLists) → AreAmong (cuts_of_hops d (walk_of d appliances labels.Opening (moment_at (low_of old.header.part) old)).hops) cuts
      → IsAligned cuts body old.header.part

abbrev pub IsWalkSought : Description → Appliances → End → BoxMoment → BoxMoment → Option End → Type 0
IsWalkSought d appliances goal old new (Some end) = IsWalkOn d appliances labels.Opening old new (endings.Arrived end)
IsWalkSought d appliances goal old new None = IsWalkMissed d appliances goal old new.header.part
