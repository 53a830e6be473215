-- Which requests a question for all that gets through is about.
use Rattle.std.specs.List.{flat_map}
use Rattle.std.specs.Prelude.{◌≡◌, ◌↔◌, ◌&&◌, ◌++◌, ◌∷◌, [], if◌then◌else◌, Bool, Contains, List, None, Option, Some, false, filter, is_some, map, not, option_map, true, ℕ}
use Rattle.header_boxes.specs.declared.boxes.Box5.{Box5}
use Rattle.listing_text.specs.Outside.{AreSourcesById}
use Rattle.listing_text.specs.Outside as listed
use Rattle.listing_text.specs.Sides.{AreSidesOf, alone, sides_between}
use Rattle.query_words.specs.Sides.{all_addresses}
use Rattle.query_words.specs.declared.reaches.ReachPairs.{ReachPairs}
use Rattle.query_words.specs.declared.reaches.ReachQuery.{ReachQuery}
use Rattle.vpc_laws.specs.Types.{Description, End, EniNo, FarNo, Interface}
use Rattle.vpc_model.specs.Lookup.{both_addresses, interface_at}
use Rattle.vpc_model.specs.Verdict.{same_end}
use Rattle.vpc_model.specs.declared.places.End.TheVariants as ends
use Rattle.described_hosts.specs.Hosts.{AreHostsById}

-- ---- sources

-- those of a start: its primary address, if it has one; all, of the internet and of a network that isn't described
abbrev pub own_sources : Description → End → Option (ℕ × ℕ)
own_sources d (ends.Interface i) = let e = interface_at d i in option_map alone e.primary
own_sources d ends.Internet = Some all_addresses
own_sources d (ends.Far k) = Some all_addresses

-- those that are asked for: those that are given, else the start's own
abbrev pub sources_of : Description → Option (ℕ × ℕ) → End → Option (ℕ × ℕ)
sources_of d (Some side) start = Some side
sources_of d None start = own_sources d start

-- ---- destinations

-- the private and public addresses of an interface
abbrev pub own_addresses : Interface → List ℕ
own_addresses e = flat_map both_addresses e.addresses

-- those that are asked for: those that are given; else the addresses of an interface that is the goal and the runs of its prefixes, and all where
-- none is
abbrev pub AreTargets : Description → Option (ℕ × ℕ) → Option End → List (ℕ × ℕ) → Type 0
AreTargets d (Some side) goal targets = targets ≡ side ∷ []
AreTargets d None None targets = targets ≡ all_addresses ∷ []
AreTargets d None (Some ends.Internet) targets = targets ≡ all_addresses ∷ []
AreTargets d None (Some (ends.Far k)) targets = targets ≡ all_addresses ∷ []
AreTargets d None (Some (ends.Interface i)) targets = let e = interface_at d i in AreSidesOf (own_addresses e) e.prefixes targets

-- ---- boxes

-- one box for each destination; none where there is no source
abbrev pub boxes_by : ReachPairs → List (ℕ × ℕ) → Option (ℕ × ℕ) → List Box5
boxes_by pairs targets None = []
boxes_by pairs targets (Some src) = map (sides_between pairs src) targets

-- the headers that are asked for from a start
abbrev pub boxes_at : Description → ReachQuery → List (ℕ × ℕ) → End → List Box5
boxes_at d query targets start = boxes_by query.pairs targets (sources_of d query.pairs.src start)

-- ---- starts

-- the end is the goal
abbrev pub is_goal : Option End → End → Bool
is_goal None e = false
is_goal (Some goal) e = same_end e goal

abbrev pub has_primary : Description → EniNo → Bool
has_primary d i = let e = interface_at d i in is_some e.primary

-- its requests have a source: one that is given, or its primary address
abbrev pub has_source : Description → Option (ℕ × ℕ) → EniNo → Bool
has_source d (Some side) i = true
has_source d None i = has_primary d i

-- an interface whose requests have a source, and that isn't the goal
abbrev pub is_start : Description → Option (ℕ × ℕ) → Option End → EniNo → Bool
is_start d src goal i = has_source d src i && not (is_goal goal (ends.Interface i))

-- a network that isn't described, and that isn't the goal
abbrev pub is_far_start : Option End → FarNo → Bool
is_far_start goal k = not (is_goal goal (ends.Far k))

-- the internet, then such hosts and such networks, without the goal
abbrev pub starts_among : Description → Option (ℕ × ℕ) → Option End → List EniNo → List FarNo → List End
starts_among d src goal hosts outside =
    (if is_goal goal ends.Internet then [] else ends.Internet ∷ [])
    ++ map ends.Interface (filter (is_start d src goal) hosts)
    ++ map ends.Far (filter (is_far_start goal) outside)

-- they, with the hosts and the networks in the order of their ids
pub record AreAllStarts (d : Description) (src : Option (ℕ × ℕ)) (goal : Option End) (starts : List End) : Type 0 where
  pub hosts : List EniNo
  pub outside : List FarNo
  pub by_id : AreHostsById d hosts
  pub outside_by_id : AreSourcesById d outside
  pub are : starts ≡ starts_among d src goal hosts outside

-- where requests start: at the end that is given, or at all
abbrev pub AreStarts : Description → Option (ℕ × ℕ) → Option End → Option End → List End → Type 0
AreStarts d src (Some start) goal starts = starts ≡ start ∷ []
AreStarts d src None goal starts = AreAllStarts d src goal starts

-- ---- links

-- the networks that aren't described among the starts, in the order of the description; none where the start is given
abbrev pub links_between : Description → Option End → Option End → List FarNo
links_between d (Some start) goal = []
links_between d None goal = filter (is_far_start goal) (listed.sources_of d)

-- behind all of them one network is taken to lie: a reply to a request that came in by one may arrive at any (profile)
abbrev pub links_of : Description → ReachQuery → List FarNo
links_of d query = links_between d query.start query.goal

-- where no start is given, they are the networks that aren't described among the starts
abbrev pub LinksAreStarts : Type 0
LinksAreStarts =
    (d : Description) (query : ReachQuery) (starts : List End) (k : FarNo) → query.start ≡ None → AreStarts d query.pairs.src query.start query.goal starts
    → Contains starts (ends.Far k) ↔ Contains (links_of d query) k
