-- What becomes of a request in one network.
use Rattle.std.specs.Prelude.{Err, List, None, Ok, Option, Result, Some}
use Rattle.box_walk.specs.Journeys.{journey_of}
use Rattle.box_walk.specs.declared.journeys.Journey.{Journey}
use Rattle.box_walk.specs.declared.journeys.Journey.TheVariants as journeys
use Rattle.vpc_base.specs.declared.headers.Header.{Header}
use Rattle.vpc_laws.specs.Types.{Description, End, FarNo, Phase, Stop}
use Rattle.vpc_model.specs.Appliances.{appliances_of}
use Rattle.vpc_model.specs.Verdict.{Homes, homes_among}
use Rattle.vpc_model.specs.declared.outcomes.Phase.TheVariants as phases
use Rattle.vpc_model.specs.declared.stops.Stop.TheVariants as stops
use Rattle.journey_changes.specs.declared.fates.Barrier.{Barrier}
use Rattle.journey_changes.specs.declared.fates.Barrier.TheVariants as barriers
use Rattle.journey_changes.specs.declared.fates.Toward.{Toward}
use Rattle.journey_changes.specs.declared.fates.Toward.TheVariants as towards

-- the end that is reached, or what keeps a request from one
abbrev pub Fate : Type 0
Fate = Result End Barrier

-- by the journey
abbrev pub fate_by : Journey → Fate
fate_by (journeys.Reached end) = Ok end
fate_by (journeys.Stopped phase s) = Err (barriers.Stopped phase s)

-- an end that the network doesn't have is reached by nothing: what arrives elsewhere is in a wrong place
abbrev pub missing_by : Journey → Fate
missing_by (journeys.Reached end) = Err (barriers.Stopped phases.Request (stops.WrongPlace end))
missing_by (journeys.Stopped phase s) = Err (barriers.Stopped phase s)

-- from a start that is there, and whose replies may arrive at its homes
abbrev pub fate_from : Description → Homes → Toward → Header → Fate
fate_from d homes towards.Any h = fate_by (journey_of d (appliances_of d) homes None h)
fate_from d homes towards.Missing h = missing_by (journey_of d (appliances_of d) homes None h)
fate_from d homes (towards.Goal goal) h = fate_by (journey_of d (appliances_of d) homes (Some goal) h)

-- what becomes of a request from the start, where the network has it; replies to a network that isn't described may arrive by
-- each of the links
abbrev pub fate_of : Description → Option End → List FarNo → Toward → Header → Fate
fate_of d None links toward h = Err barriers.Absent
fate_of d (Some start) links toward h = fate_from d (homes_among links start) toward h

-- the end that is reached, if one is
abbrev pub reached_by : Fate → Option End
reached_by (Ok end) = Some end
reached_by (Err barrier) = None

-- by what stops a request toward a goal, if anything does
abbrev pub fate_unless : End → Option (Phase × Stop) → Fate
fate_unless goal None = Ok goal
fate_unless goal (Some told) = Err (barriers.Stopped told.0 told.1)
