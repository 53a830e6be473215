-- Links that a question about two networks takes for links to one network: where requests start at all ends, the networks that
-- aren't described among these starts.
use Rattle.std.specs.List.{filter_map}
use Rattle.std.specs.Prelude.{[], List, None, Option, Some, filter, not}
use Rattle.query_words.specs.declared.changes.ChangedEnd.{ChangedEnd}
use Rattle.vpc_laws.specs.Types.{Description, End, FarNo}
use Rattle.vpc_model.specs.declared.places.End.TheVariants as ends
use Rattle.changed_ends.specs.Asked.{Comparison, is_goal, sources_of_either}

-- the network that isn't described, where an end is one
abbrev pub far_of : Option End → Option FarNo
far_of None = None
far_of (Some ends.Internet) = None
far_of (Some (ends.Interface i)) = None
far_of (Some (ends.Far k)) = Some k

-- those of either description from which requests start, without the goal
abbrev pub outside_starts : Description → Description → Option ChangedEnd → List ChangedEnd
outside_starts before after goal = filter (λ e. not (is_goal goal e)) (sources_of_either before after)

-- what they are in the network before, as far as it has them, and in the network after
abbrev pub fars_before : List ChangedEnd → List FarNo
fars_before starts = filter_map (λ e. far_of e.before) starts

abbrev pub fars_after : List ChangedEnd → List FarNo
fars_after starts = filter_map (λ e. far_of e.after) starts

-- none where a start is given
abbrev pub links_unless : Option ChangedEnd → List FarNo → List FarNo
links_unless None links = links
links_unless (Some start) links = []

-- the links of a question, in the network before and in the network after
abbrev pub links_before : Comparison → List FarNo
links_before c = links_unless c.query.start (fars_before (outside_starts c.before c.after c.query.goal))

abbrev pub links_after : Comparison → List FarNo
links_after c = links_unless c.query.start (fars_after (outside_starts c.before c.after c.query.goal))
