-- What is told of a question: for each start the boxes of requests for which something changes, each with what does.
use Rattle.std.specs.Prelude.{List, None, Option, Some, option_map, ℕ}
use Rattle.box_gather.specs.Over.{AreRowsOver}
use Rattle.header_boxes.specs.declared.rows.Row.{Row}
use Rattle.journey_changes.specs.Changes.{change_of, cuts_of_both}
use Rattle.journey_changes.specs.Sent.{Sent, sent}
use Rattle.journey_changes.specs.declared.changes.Change.{Change}
use Rattle.journey_changes.specs.declared.fates.Toward.{Toward}
use Rattle.journey_changes.specs.declared.fates.Toward.TheVariants as towards
use Rattle.listing_text.specs.Told.{AreToldAll as AllOf, StartRows, Wanted}
use Rattle.ordered_cover.specs.Joined.{AreJoined, GoesOnEitherWay}
use Rattle.query_words.specs.declared.changes.ChangedEnd.{ChangedEnd}
use Rattle.vpc_base.specs.Cuts.{CutLists}
use Rattle.vpc_laws.specs.Types.{End, Header}
use Rattle.changed_ends.specs.Asked.{Comparison, boxes_at}
use Rattle.changed_ends.specs.Links.{links_after, links_before}

-- ---- requests

-- toward a goal as it stands in a network, or toward any end
abbrev pub toward_of : Option (Option End) → Toward
toward_of None = towards.Any
toward_of (Some None) = towards.Missing
toward_of (Some (Some goal)) = towards.Goal goal

-- the requests from a start, as they are sent in each network, where replies may arrive by each link of the question
abbrev pub sent_before : Comparison → ChangedEnd → Sent
sent_before c start = sent c.before start.before (links_before c) (toward_of (option_map (λ e. e.before) c.query.goal))

abbrev pub sent_after : Comparison → ChangedEnd → Sent
sent_after c start = sent c.after start.after (links_after c) (toward_of (option_map (λ e. e.after) c.query.goal))

-- ---- what is told

-- what changes for a request, with the appliances that each network describes
abbrev pub change_in : Comparison → ChangedEnd → Header → Option Change
change_in c start h = change_of (sent_before c start) (sent_after c start) h

-- the cuts of both networks
abbrev pub cuts_in : Comparison → CutLists
cuts_in c = cuts_of_both c.before c.after

-- what is asked of each start: what changes for its requests, in at most as many rows as the query says
abbrev pub wanted : Comparison → List (ℕ × ℕ) → Wanted ChangedEnd Change
wanted c targets = record { boxes = boxes_at c targets; word = change_in c; cuts = cuts_in c; max = c.query.pairs.max }

-- a start with its rows
abbrev pub ChangeRows : Type 0
ChangeRows = StartRows ChangedEnd Change

-- disjoint rows, by their low corners, of requests from each start for which something changes, which hold all of them
abbrev pub AreToldAll : Comparison → List (ℕ × ℕ) → List ChangedEnd → List ChangeRows → Type 0
AreToldAll c targets starts told = AllOf (wanted c targets) starts told

-- no row from a start could be one with the next, whatever boxes they lie in
abbrev pub RowsAreJoined : Type 0
RowsAreJoined =
    (c : Comparison) (targets : List (ℕ × ℕ)) (start : ChangedEnd) (rows : List (Row Change))
    → AreRowsOver (change_in c start) (cuts_in c) (boxes_at c targets start) rows → AreJoined GoesOnEitherWay rows
