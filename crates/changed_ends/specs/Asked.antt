-- Which requests a question for what changes is about: those of either network.
use Rattle.std.specs.List.{flat_map}
use Rattle.std.specs.List.Sorted.{IsPermutation, IsSortedByKey}
use Rattle.std.specs.Cmp.Lexicographic.{slice_cmp}
use Rattle.std.specs.Ordering.{nat_cmp}
use Rattle.std.specs.Prelude.{◌≡◌, ◌==◌, ◌&&◌, ◌++◌, ◌∷◌, [], if◌then◌else◌, Bool, List, None, Option, Some, ◌||◌, false, filter, is_some, map, not, option_and_then, true, ℕ}
use Rattle.described_hosts.specs.Hosts.{hosts_of, id_of, is_host}
use Rattle.described_hosts.specs.Outside.{far_id}
use Rattle.header_boxes.specs.declared.boxes.Box5.{Box5}
use Rattle.listing_text.specs.Outside as listed
use Rattle.listing_text.specs.Sides.{AreSidesOf, alone, sides_between}
use Rattle.prefix_text.specs.Block.{Block}
use Rattle.query_words.specs.ChangeQuery.{AreChangedEnds, has_source, internet_in_both, primary_in}
use Rattle.query_words.specs.Sides.{all_addresses}
use Rattle.query_words.specs.declared.changes.ChangeQuery.{ChangeQuery}
use Rattle.query_words.specs.declared.changes.ChangedEnd.{ChangedEnd}
use Rattle.query_words.specs.declared.reaches.ReachPairs.{ReachPairs}
use Rattle.vpc_laws.specs.Types.{Description, End, EniNo, FarNo}
use Rattle.vpc_model.specs.Far.{far_of_id}
use Rattle.vpc_model.specs.Lookup.{both_addresses, eni_no, has_interface, interface_at}
use Rattle.vpc_model.specs.Told.{end_id}
use Rattle.vpc_model.specs.Verdict.{same_end}
use Rattle.vpc_model.specs.declared.places.End.TheVariants as ends

-- two described networks, and what is asked about them
pub record Comparison : Type 0 where
  pub before : Description
  pub after : Description
  pub query : ChangeQuery

abbrev pub comparison : Description → Description → ChangeQuery → Comparison
comparison before after query = record { before = before; after = after; query = query }

-- the query's ends are described where they are asked for
abbrev pub HasEnds : Comparison → Type 0
HasEnds c = AreChangedEnds c.before c.after c.query

-- ---- ends of either network

-- the interface with a number is no gateway's
abbrev pub is_host_at : Description → EniNo → Bool
is_host_at d i = let e = interface_at d i in is_host e

-- the interface with an id as an end, where the network has it and it is no gateway's
abbrev pub host_with_id : Description → List ℕ → Option End
host_with_id d id = if has_interface d id && is_host_at d (eni_no d id) then Some (ends.Interface (eni_no d id)) else None

-- a host of the network before, with what it is afterwards
abbrev pub from_before : Description → Description → EniNo → ChangedEnd
from_before before after i = record { before = Some (ends.Interface i); after = host_with_id after (id_of before i) }

-- a host of the network after that is none before
abbrev pub from_after : EniNo → ChangedEnd
from_after j = record { before = None; after = Some (ends.Interface j) }

abbrev pub is_new : Description → Description → EniNo → Bool
is_new before after j = not (is_some (host_with_id before (id_of after j)))

-- those of the network before, and those of the network after that it didn't have
abbrev pub hosts_of_either : Description → Description → List ChangedEnd
hosts_of_either before after =
    map (from_before before after) (hosts_of before) ++ map from_after (filter (is_new before after) (hosts_of after))

-- the id of an end, if there is one
abbrev pub id_or : Description → Option End → List ℕ → List ℕ
id_or d None other = other
id_or d (Some e) other = end_id d e

-- the id that an end has in both networks, or in the one that has it
abbrev pub changed_id : Description → Description → ChangedEnd → List ℕ
changed_id before after e = id_or before e.before (id_or after e.after [])

-- the hosts of either network, each once, in the order of their ids
pub record AreHostsOfEither (before after : Description) (hosts : List ChangedEnd) : Type 0 where
  pub all : IsPermutation (hosts_of_either before after) hosts
  pub by_id : IsSortedByKey (changed_id before after) (slice_cmp nat_cmp) hosts

-- ---- networks of either description

-- the network with an id as an end, where requests start there
abbrev pub source_with_id : Description → List ℕ → Option End
source_with_id d id = option_and_then (λ k. if listed.is_source d k then Some (ends.Far k) else None) (far_of_id d id)

-- the other description has no interface with the id
abbrev pub is_free : Description → Description → FarNo → Bool
is_free d other k = not (has_interface other (far_id d k))

-- a network of the description before, with what it is afterwards
abbrev pub far_from_before : Description → Description → FarNo → ChangedEnd
far_from_before before after k = record { before = Some (ends.Far k); after = source_with_id after (far_id before k) }

-- a network of the description after that is none before
abbrev pub far_from_after : FarNo → ChangedEnd
far_from_after l = record { before = None; after = Some (ends.Far l) }

abbrev pub is_new_source : Description → Description → FarNo → Bool
is_new_source before after l = is_free after before l && not (is_some (source_with_id before (far_id after l)))

-- those of the description before, and those of the description after that it didn't have
abbrev pub sources_of_either : Description → Description → List ChangedEnd
sources_of_either before after =
    map (far_from_before before after) (filter (is_free before after) (listed.sources_of before))
    ++ map far_from_after (filter (is_new_source before after) (listed.sources_of after))

-- the networks of either description, each once, in the order of their ids
pub record AreSourcesOfEither (before after : Description) (sources : List ChangedEnd) : Type 0 where
  pub all : IsPermutation (sources_of_either before after) sources
  pub by_id : IsSortedByKey (changed_id before after) (slice_cmp nat_cmp) sources

-- ---- starts

abbrev pub same_option : Option End → Option End → Bool
same_option None None = true
same_option (Some a) (Some b) = same_end a b
same_option a b = false

-- the end is the goal
abbrev pub is_goal : Option ChangedEnd → ChangedEnd → Bool
is_goal None e = false
is_goal (Some goal) e = same_option goal.before e.before && same_option goal.after e.after

-- its requests have a source: one that is given, or its primary address in one of the networks
abbrev pub can_send : Description → Description → Option (ℕ × ℕ) → ChangedEnd → Bool
can_send before after (Some side) e = true
can_send before after None e = has_source before after e

-- a host whose requests have a source, and that isn't the goal
abbrev pub is_start : Description → Description → Option (ℕ × ℕ) → Option ChangedEnd → ChangedEnd → Bool
is_start before after src goal e = can_send before after src e && not (is_goal goal e)

-- the internet, then such hosts and the networks that aren't described, without the goal
abbrev pub starts_among : Description → Description → Option (ℕ × ℕ) → Option ChangedEnd → List ChangedEnd → List ChangedEnd → List ChangedEnd
starts_among before after src goal hosts outside =
    (if is_goal goal internet_in_both then [] else internet_in_both ∷ [])
    ++ filter (is_start before after src goal) hosts
    ++ filter (λ e. not (is_goal goal e)) outside

-- they, with the hosts and the networks in the order of their ids
pub record AreAllStarts (before after : Description) (src : Option (ℕ × ℕ)) (goal : Option ChangedEnd) (starts : List ChangedEnd) : Type 0 where
  pub hosts : List ChangedEnd
  pub outside : List ChangedEnd
  pub hosts_are : AreHostsOfEither before after hosts
  pub outside_are : AreSourcesOfEither before after outside
  pub are : starts ≡ starts_among before after src goal hosts outside

-- where requests start: at the end that is given, or at all
abbrev pub StartAt : Description → Description → Option (ℕ × ℕ) → Option ChangedEnd → Option ChangedEnd → List ChangedEnd → Type 0
StartAt before after src (Some start) goal starts = starts ≡ start ∷ []
StartAt before after src None goal starts = AreAllStarts before after src goal starts

abbrev pub AreStarts : Comparison → List ChangedEnd → Type 0
AreStarts c starts = StartAt c.before c.after c.query.pairs.src c.query.start c.query.goal starts

-- ---- sources

-- two addresses where they differ, else the one that there is
abbrev pub each_once : Option ℕ → Option ℕ → List ℕ
each_once None None = []
each_once None (Some b) = b ∷ []
each_once (Some a) None = a ∷ []
each_once (Some a) (Some b) = if a == b then a ∷ [] else a ∷ b ∷ []

-- an end that has all addresses: the internet, or a network that isn't described
abbrev pub is_outside : Option End → Bool
is_outside None = false
is_outside (Some ends.Internet) = true
is_outside (Some (ends.Interface i)) = false
is_outside (Some (ends.Far k)) = true

-- it is one in either network
abbrev pub is_outside_in_either : ChangedEnd → Bool
is_outside_in_either e = is_outside e.before || is_outside e.after

-- those of a start: its primary addresses; all, of an end outside
abbrev pub own_sources : Description → Description → ChangedEnd → List (ℕ × ℕ)
own_sources before after start =
    if is_outside_in_either start then all_addresses ∷ []
    else map alone (each_once (primary_in before start.before) (primary_in after start.after))

-- those that are asked for: those that are given, else the start's own
abbrev pub sources_of : Description → Description → Option (ℕ × ℕ) → ChangedEnd → List (ℕ × ℕ)
sources_of before after (Some side) start = side ∷ []
sources_of before after None start = own_sources before after start

-- ---- destinations

-- the private and public addresses of an end
abbrev pub addresses_of : Description → Option End → List ℕ
addresses_of d None = []
addresses_of d (Some ends.Internet) = []
addresses_of d (Some (ends.Far k)) = []
addresses_of d (Some (ends.Interface i)) = let e = interface_at d i in flat_map both_addresses e.addresses

-- those that it has in either network
abbrev pub addresses_in_either : Description → Description → ChangedEnd → List ℕ
addresses_in_either before after e = addresses_of before e.before ++ addresses_of after e.after

-- the blocks that are delegated to an end
abbrev pub prefixes_of : Description → Option End → List Block
prefixes_of d None = []
prefixes_of d (Some ends.Internet) = []
prefixes_of d (Some (ends.Far k)) = []
prefixes_of d (Some (ends.Interface i)) = let e = interface_at d i in e.prefixes

abbrev pub prefixes_in_either : Description → Description → ChangedEnd → List Block
prefixes_in_either before after e = prefixes_of before e.before ++ prefixes_of after e.after

-- all of an end outside, else the sides of some addresses and blocks
abbrev pub AreAllOrSides : Bool → List ℕ → List Block → List (ℕ × ℕ) → Type 0
AreAllOrSides true addresses blocks sides = sides ≡ all_addresses ∷ []
AreAllOrSides false addresses blocks sides = AreSidesOf addresses blocks sides

-- those of a goal: the addresses and the runs of the prefixes that it has in either network
abbrev pub AreOwnTargets : Description → Description → ChangedEnd → List (ℕ × ℕ) → Type 0
AreOwnTargets before after goal targets =
    AreAllOrSides (is_outside_in_either goal) (addresses_in_either before after goal) (prefixes_in_either before after goal) targets

-- those that are asked for: those that are given; else the goal's own, and all where there is none
abbrev pub TargetsAre : Description → Description → Option (ℕ × ℕ) → Option ChangedEnd → List (ℕ × ℕ) → Type 0
TargetsAre before after (Some side) goal targets = targets ≡ side ∷ []
TargetsAre before after None None targets = targets ≡ all_addresses ∷ []
TargetsAre before after None (Some goal) targets = AreOwnTargets before after goal targets

abbrev pub AreTargets : Comparison → List (ℕ × ℕ) → Type 0
AreTargets c targets = TargetsAre c.before c.after c.query.pairs.dst c.query.goal targets

-- ---- boxes

-- one box for each source and destination
abbrev pub boxes_between : ReachPairs → List (ℕ × ℕ) → List (ℕ × ℕ) → List Box5
boxes_between pairs targets sources = flat_map (λ src. map (sides_between pairs src) targets) sources

-- the headers that are asked for from a start
abbrev pub boxes_at : Comparison → List (ℕ × ℕ) → ChangedEnd → List Box5
boxes_at c targets start = boxes_between c.query.pairs targets (sources_of c.before c.after c.query.pairs.src start)
