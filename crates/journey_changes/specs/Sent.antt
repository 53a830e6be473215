-- Requests that are sent in one network, and the cuts that their fates depend on.
use Rattle.std.specs.Prelude.{◌≡◌, IfSome, List, None, Option, Some, true}
use Rattle.box_walk.specs.Journeys.{open_cuts}
use Rattle.vpc_base.specs.Cuts.{CutLists, no_cuts}
use Rattle.vpc_base.specs.declared.headers.Header.{Header}
use Rattle.vpc_laws.specs.Types.{Description, End, FarNo}
use Rattle.vpc_model.specs.Appliances.{appliances_of}
use Rattle.vpc_model.specs.Near.{near_cuts}
use Rattle.vpc_model.specs.Sound.{is_end}
use Rattle.vpc_model.specs.declared.places.End.TheVariants as ends
use Rattle.journey_changes.specs.Fates.{Fate, fate_of, reached_by}
use Rattle.journey_changes.specs.declared.fates.Toward.{Toward}
use Rattle.journey_changes.specs.declared.fates.Toward.TheVariants as towards

-- a described network, a start if it has it, the links that are taken to lead to one network, and where requests are to arrive
pub record Sent : Type 0 where
  pub network : Description
  pub start : Option End
  pub links : List FarNo
  pub toward : Toward

abbrev pub sent : Description → Option End → List FarNo → Toward → Sent
sent d start links toward = record { network = d; start = start; links = links; toward = toward }

-- what becomes of a request with this header
abbrev pub fate : Sent → Header → Fate
fate s h = fate_of s.network s.start s.links s.toward h

-- the end that it reaches
abbrev pub reached : Sent → Header → Option End
reached s h = reached_by (fate s h)

-- the cuts at the places of its journey
abbrev pub cuts_from : Description → End → Toward → Header → CutLists
cuts_from d start towards.Any h = open_cuts d (appliances_of d) start h
cuts_from d start towards.Missing h = open_cuts d (appliances_of d) start h
cuts_from d start (towards.Goal goal) h = near_cuts d (appliances_of d) start goal h

abbrev pub cuts_along : Description → Option End → Toward → Header → CutLists
cuts_along d None toward h = no_cuts
cuts_along d (Some start) toward h = cuts_from d start toward h

abbrev pub near : Sent → Header → CutLists
near s h = cuts_along s.network s.start s.toward h

-- the goal is described, where there is one
abbrev pub IsToward : Description → Toward → Type 0
IsToward d towards.Any = Unit {0}
IsToward d towards.Missing = Unit {0}
IsToward d (towards.Goal goal) = is_end d goal ≡ true

-- both ends are described, as far as there are any
pub record AreSentWell (s : Sent) : Type 0 where
  pub start : IfSome s.start (λ e. is_end s.network e ≡ true)
  pub toward : IsToward s.network s.toward

-- ---- what probes are made for, where there may be no start or no goal

abbrev pub start_or : Option End → End
start_or None = ends.Internet
start_or (Some start) = start

abbrev pub goal_or : Toward → End
goal_or towards.Any = ends.Internet
goal_or towards.Missing = ends.Internet
goal_or (towards.Goal goal) = goal
