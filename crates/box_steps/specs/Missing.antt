-- Where an open can no longer arrive at its goal.
use Rattle.std.specs.Prelude.{◌&&◌, Bool, None, Option, Some, false, is_none, not, true}
use Rattle.vpc_base.specs.Cuts.{CutLists}
use Rattle.vpc_base.specs.declared.headers.Header.{Header}
use Rattle.vpc_base.specs.declared.headers.Label.TheVariants as labels
use Rattle.header_boxes.specs.declared.boxes.Box5.{Box5}
use Rattle.box_images.specs.Answers.{Answers}
use Rattle.vpc_laws.specs.Types.{Description, End, EniNo, Place}
use Rattle.vpc_model.specs.Appliances.{Appliances, boxes_at}
use Rattle.vpc_model.specs.Step.{step_of}
use Rattle.vpc_model.specs.Step.Words.{Moment, Next, arrive, go, stop}
use Rattle.vpc_model.specs.Verdict.{same_end}
use Rattle.vpc_model.specs.declared.places.End.TheVariants as ends
use Rattle.vpc_model.specs.declared.places.Place.TheVariants as places

-- an interface that is neither the goal nor an appliance's: what is delivered there goes no further
abbrev pub is_elsewhere : Appliances → End → EniNo → Bool
is_elsewhere appliances goal i = not (same_end (ends.Interface i) goal) && is_none (boxes_at appliances i)

-- no interface, or such a one
abbrev pub is_away : Appliances → End → Option EniNo → Bool
is_away appliances goal None = true
is_away appliances goal (Some i) = is_elsewhere appliances goal i

-- a place that no open leaves, and where it doesn't arrive at the goal: such an interface, or a NAT gateway by its own
abbrev pub leads_away : Appliances → End → Place → Bool
leads_away appliances goal (places.Into i) = is_elsewhere appliances goal i
leads_away appliances goal (places.NatIn n) = true
leads_away appliances goal _ = false

-- an open misses the goal by what comes next: it is stopped, or goes on to such a place
abbrev pub misses : Appliances → End → Next → Bool
misses appliances goal (stop s) = true
misses appliances goal (go p h) = leads_away appliances goal p
misses appliances goal (arrive end) = false

-- and at a moment, by its step
abbrev pub misses_at : Description → Appliances → End → Moment → Bool
misses_at d appliances goal m = let s = step_of d appliances labels.Opening m in misses appliances goal s.next

-- the test holds for all headers of the body that is told, if one is
abbrev pub HoldsOver : (CutLists → Type 0) → (Header → Bool) → Box5 → Option Box5 → Type 0
HoldsOver divide_enough test part None = Unit {0}
HoldsOver divide_enough test part (Some body) = Answers divide_enough test part (record { body = body; told = true })
