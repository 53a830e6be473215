-- What becomes of requests from an end: with a goal they should arrive there, without one at any end but the start.
use Rattle.std.specs.Prelude.{◌≡◌, ◌≢◌, ◌↔◌, if◌then◌else◌, None, Option, Some, true}
use Rattle.vpc_base.specs.Cuts.{CutLists}
use Rattle.vpc_base.specs.Header.{reply_of}
use Rattle.vpc_base.specs.declared.headers.Header.{Header}
use Rattle.box_images.specs.Answers.{Answers}
use Rattle.box_steps.specs.declared.moment.BoxMoment.{BoxMoment}
use Rattle.vpc_laws.specs.Types.{Description, End, Outcome, Phase, Stop, Verdict}
use Rattle.vpc_model.specs.Appliances.{Appliances}
use Rattle.vpc_model.specs.Near.{near_cuts}
use Rattle.vpc_model.specs.Verdict.{Homes, is_home, request_walk, same_end, verdict_by, verdict_of_arrival}
use Rattle.vpc_model.specs.Walk.{Walk}
use Rattle.vpc_model.specs.declared.outcomes.Outcome.TheVariants as outcomes
use Rattle.vpc_model.specs.declared.outcomes.Phase.TheVariants as phases
use Rattle.vpc_model.specs.declared.outcomes.Verdict.TheVariants as verdicts
use Rattle.vpc_model.specs.declared.stops.Stop.TheVariants as stops
use Rattle.box_walk.specs.declared.journeys.Journey.{Journey}
use Rattle.box_walk.specs.declared.journeys.Journey.TheVariants as journeys

-- ---- one request

-- by the verdict toward an end
abbrev pub journey_by : End → Verdict → Journey
journey_by goal verdicts.Through = journeys.Reached goal
journey_by goal (verdicts.Stopped phase s) = journeys.Stopped phase s

-- a request without a goal, whose walk has ended so: at another end than the start, the verdict toward that end
abbrev pub journey_after : Description → Appliances → Homes → Header → Walk → Outcome → Journey
journey_after d appliances homes h request (outcomes.Stopped s) = journeys.Stopped phases.Request s
journey_after d appliances homes h request (outcomes.Arrived end k) =
    if same_end end homes.start then journeys.Stopped phases.Request (stops.WrongPlace end)
    else journey_by end (verdict_of_arrival d appliances homes end h request (reply_of k))

-- what becomes of a request from the start, whose reply may arrive at any of its homes, toward the goal if there is one
abbrev pub journey_of : Description → Appliances → Homes → Option End → Header → Journey
journey_of d appliances homes (Some goal) h = journey_by goal (verdict_by d appliances homes goal h)
journey_of d appliances homes None h =
    let request = request_walk d appliances homes.start h in
    journey_after d appliances homes h request request.outcome

-- the end that is reached, if one is
abbrev pub reached_end : Journey → Option End
reached_end (journeys.Reached end) = Some end
reached_end (journeys.Stopped phase s) = None

-- the end that a request from the start reaches
abbrev pub reached_of : Description → Appliances → Homes → Option End → Header → Option End
reached_of d appliances homes goal h = reached_end (journey_of d appliances homes goal h)

-- without a goal a request reaches an end exactly where, toward that end, it gets through
abbrev pub JourneysAreVerdicts : Type 0
JourneysAreVerdicts =
    (d : Description) (appliances : Appliances) (homes : Homes) (end : End) (h : Header) → end ≢ homes.start
    → (journey_of d appliances homes None h ≡ journeys.Reached end) ↔ (verdict_by d appliances homes end h ≡ verdicts.Through)

-- where replies may arrive at more ends, more requests get through, and each reaches the end that it reached
abbrev pub MoreHomesLetMoreThrough : Type 0
MoreHomesLetMoreThrough =
    (d : Description) (appliances : Appliances) (few more : Homes) (goal : Option End) (h : Header) (end : End)
    → few.start ≡ more.start → ((e : End) → is_home few e ≡ true → is_home more e ≡ true)
    → reached_of d appliances few goal h ≡ Some end → reached_of d appliances more goal h ≡ Some end

-- ---- requests of a part

-- where a request's walk has arrived; the start where it was stopped
abbrev pub arrived_at : End → Outcome → End
arrived_at start (outcomes.Arrived end k) = end
arrived_at start (outcomes.Stopped s) = start

-- the cuts at the places of a request's walk and of its reply's, from wherever it arrives
abbrev pub open_cuts : Description → Appliances → End → Header → CutLists
open_cuts d appliances start h =
    let request = request_walk d appliances start h in
    near_cuts d appliances start (arrived_at start request.outcome) h

-- the journey toward an end, by what stops a request or its reply
abbrev pub toward : End → Option (Phase × Stop) → Journey
toward end None = journeys.Reached end
toward end (Some told) = journeys.Stopped told.0 told.1

-- a journey of all packets of the later moment, whose part is a body of the earlier one's
abbrev pub TellsJourney : (CutLists → Type 0) → (Header → Journey) → BoxMoment → BoxMoment → Journey → Type 0
TellsJourney divide_enough journey old new told = Answers divide_enough journey old.header.part (record { body = new.header.part; told = told })
