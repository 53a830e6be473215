-- What is told of a question: for each start the boxes of requests that get through, each with the end that they reach.
use Rattle.std.specs.Prelude.{List, Option, ℕ}
use Rattle.box_gather.specs.Over.{AreRowsOver}
use Rattle.box_walk.specs.Journeys.{reached_of}
use Rattle.header_boxes.specs.declared.rows.Row.{Row}
use Rattle.listing_text.specs.Told.{AreToldAll as AllOf, StartRows as RowsOf, Wanted}
use Rattle.ordered_cover.specs.Joined.{AreJoined, GoesOnEitherWay}
use Rattle.query_words.specs.declared.reaches.ReachQuery.{ReachQuery}
use Rattle.vpc_laws.specs.Types.{Description, End, Header}
use Rattle.vpc_model.specs.Appliances.{appliances_of}
use Rattle.vpc_model.specs.Cuts.{cuts_of}
use Rattle.vpc_model.specs.Verdict.{homes_among}
use Rattle.end_reach.specs.Asked.{boxes_at, links_of}

-- the end that a request reaches, with the described appliances, where its reply may arrive at each of the links
abbrev pub reached_in : Description → ReachQuery → End → Header → Option End
reached_in d query start h = reached_of d (appliances_of d) (homes_among (links_of d query) start) query.goal h

-- what is asked of each start: which end its requests reach, in at most as many rows as the query says
abbrev pub wanted : Description → ReachQuery → List (ℕ × ℕ) → Wanted End End
wanted d query targets = record { boxes = boxes_at d query targets; word = reached_in d query; cuts = cuts_of d; max = query.pairs.max }

-- a start with its rows
abbrev pub StartRows : Type 0
StartRows = RowsOf End End

-- disjoint rows, by their low corners, of requests that get through from each start, which hold all of them
abbrev pub AreToldAll : Description → ReachQuery → List (ℕ × ℕ) → List End → List StartRows → Type 0
AreToldAll d query targets starts told = AllOf (wanted d query targets) starts told

-- no row from a start could be one with the next, whatever boxes they lie in
abbrev pub RowsAreJoined : Type 0
RowsAreJoined =
    (d : Description) (query : ReachQuery) (targets : List (ℕ × ℕ)) (start : End) (rows : List (Row End))
    → AreRowsOver (reached_in d query start) (cuts_of d) (boxes_at d query targets start) rows → AreJoined GoesOnEitherWay rows
