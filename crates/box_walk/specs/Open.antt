-- What is asked of requests from a start, toward any end.
use Rattle.vpc_base.specs.Cuts.{AreAmong}
use Rattle.vpc_base.specs.declared.headers.Header.{Header}
use Rattle.header_boxes.specs.Boxes.{low_of}
use Rattle.box_images.specs.Answers.{Answers}
use Rattle.box_images.specs.declared.images.Part.{Part}
use Rattle.std.specs.Prelude.{None}
use Rattle.cut_laws.proofs.Places.{near_cuts_are_among_all}
use Rattle.vpc_laws.specs.Types.{Box5, Description, End}
use Rattle.vpc_model.specs.Appliances.{appliances_of}
use Rattle.vpc_model.specs.Cuts.{cuts_of}
use Rattle.vpc_model.specs.Verdict.{Homes, alone, request_walk}
use Rattle.box_walk.specs.Journeys.{arrived_at, journey_of, open_cuts}
use Rattle.box_walk.specs.declared.journeys.Journey.{Journey}

-- a described network, and where requests start and their replies may arrive
pub record Starting : Type 0 where
  pub network : Description
  pub homes : Homes

abbrev pub starting_by : Description → Homes → Starting
starting_by d homes = record { network = d; homes = homes }

-- replies may arrive at the start alone
abbrev pub starting : Description → End → Starting
starting d start = starting_by d (alone start)

-- what becomes of the requests of a part of the sides
abbrev pub AnswersJourney : Starting → Box5 → Part Journey → Type 0
AnswersJourney s sides told =
    let a = appliances_of s.network in
    Answers (AreAmong (open_cuts s.network a s.homes.start (low_of sides))) (journey_of s.network a s.homes None) sides told

-- the cuts at the places of a journey are among all
pub open_cuts_are_among_all : (d : Description) (start : End) (h : Header) → AreAmong (open_cuts d (appliances_of d) start h) (cuts_of d)
open_cuts_are_among_all d start h =
    let request = request_walk d (appliances_of d) start h in
    near_cuts_are_among_all d (appliances_of d) start (arrived_at start request.outcome) h
