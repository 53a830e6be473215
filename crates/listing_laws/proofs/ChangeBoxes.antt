-- The boxes that a question of `diff` is about hold numbers of their fields.
use Rattle.std.proofs.Common.{◌==◌, ◌<◌, ◌^◌, ◌∷◌, [], All, Bool, IfSome, List, None, Option, Some, false, if◌then◌else◌, map, true, ℕ}
use Rattle.std.proofs.lemmas.List.Elements.{All-append, All-cons, All-head, All-map, All-nil, All-tail}
use Rattle.changed_ends.specs.Asked.{AreAllOrSides, TargetsAre, addresses_in_either, addresses_of, boxes_between, each_once, is_outside_in_either, prefixes_in_either, prefixes_of, sources_of}
use Rattle.listing_text.specs.Sides.{alone, sides_between}
use Rattle.prefix_text.specs.Block.{Block}
use Rattle.query_words.specs.ChangeQuery.{primary_in}
use Rattle.query_words.specs.Sides.{all_addresses}
use Rattle.query_words.specs.declared.changes.ChangedEnd.{ChangedEnd}
use Rattle.query_words.specs.declared.reaches.ReachPairs.{ReachPairs}
use Rattle.report_reader.specs.ReadsBack.{Fits}
use Rattle.vpc_laws.specs.Types.{Description, End}
use Rattle.vpc_model.specs.declared.places.End.TheVariants as ends
use Rattle.listing_laws.specs.Typed.{HasTypedInterfaces}
use Rattle.listing_laws.proofs.PairsRead.{ArePairsFit}
use Rattle.listing_laws.proofs.ReachBoxes.{FitsRange, all_fits, between_fits, one_fits, sides_fit}
use Rattle.listing_laws.proofs.ReadRows.{FitsBlock}
use Rattle.listing_laws.proofs.Readers.{FitsSide}
use Rattle.listing_laws.proofs.Typing.{known}

abbrev FitsAddress : ℕ → Type 0
FitsAddress a = a < 2 ^ 32

-- ---- sources

primary_fits : (d : Description) (end : Option End) → HasTypedInterfaces d → IfSome (primary_in d end) FitsAddress
primary_fits d None typed = tt
primary_fits d (Some ends.Internet) typed = tt
primary_fits d (Some (ends.Far k)) typed = tt
primary_fits d (Some (ends.Interface i)) typed = let k = known d i typed in k.primary

once_fit : (a b : Option ℕ) → IfSome a FitsAddress → IfSome b FitsAddress → All FitsAddress (each_once a b)
once_fit None None first second = All-nil FitsAddress
once_fit None (Some b) first second = All-cons FitsAddress b [] second (All-nil FitsAddress)
once_fit (Some a) None first second = All-cons FitsAddress a [] first (All-nil FitsAddress)
once_fit (Some a) (Some b) first second = by (a == b)
  where
    by : (same : Bool) → All FitsAddress (if same then a ∷ [] else a ∷ b ∷ [])
    by true = All-cons FitsAddress a [] first (All-nil FitsAddress)
    by false = All-cons FitsAddress a (b ∷ []) first (All-cons FitsAddress b [] second (All-nil FitsAddress))

own_fit : (outside : Bool) (addresses : List ℕ) → All FitsAddress addresses
    → All FitsRange (if outside then all_addresses ∷ [] else map alone addresses)
own_fit true addresses all = All-cons FitsRange all_addresses [] all_fits (All-nil FitsRange)
own_fit false addresses all = All-map FitsRange alone addresses all

sources_fit : (before after : Description) (given : Option (ℕ × ℕ)) (start : ChangedEnd) → HasTypedInterfaces before
    → HasTypedInterfaces after → FitsSide given → All FitsRange (sources_of before after given start)
sources_fit before after (Some side) start first second fits = All-cons FitsRange side [] fits (All-nil FitsRange)
sources_fit before after None start first second fits =
    own_fit (is_outside_in_either start) (each_once (primary_in before start.before) (primary_in after start.after))
    (once_fit (primary_in before start.before) (primary_in after start.after) (primary_fits before start.before first)
    (primary_fits after start.after second))

-- ---- destinations

addresses_fit : (d : Description) (end : Option End) → HasTypedInterfaces d → All FitsAddress (addresses_of d end)
addresses_fit d None typed = All-nil FitsAddress
addresses_fit d (Some ends.Internet) typed = All-nil FitsAddress
addresses_fit d (Some (ends.Far k)) typed = All-nil FitsAddress
addresses_fit d (Some (ends.Interface i)) typed = let k = known d i typed in k.addresses

prefixes_fit : (d : Description) (end : Option End) → HasTypedInterfaces d → All FitsBlock (prefixes_of d end)
prefixes_fit d None typed = All-nil FitsBlock
prefixes_fit d (Some ends.Internet) typed = All-nil FitsBlock
prefixes_fit d (Some (ends.Far k)) typed = All-nil FitsBlock
prefixes_fit d (Some (ends.Interface i)) typed = let k = known d i typed in k.prefixes

own_targets_fit : (outside : Bool) (addresses : List ℕ) (blocks : List Block) (targets : List (ℕ × ℕ)) → All FitsAddress addresses
    → All FitsBlock blocks → AreAllOrSides outside addresses blocks targets → All FitsRange targets
own_targets_fit true addresses blocks targets all fit are = one_fits all_addresses targets all_fits are
own_targets_fit false addresses blocks targets all fit are = sides_fit addresses blocks targets all fit are

pub targets_fit : (before after : Description) (given : Option (ℕ × ℕ)) (goal : Option ChangedEnd) (targets : List (ℕ × ℕ))
    → HasTypedInterfaces before → HasTypedInterfaces after → FitsSide given
    → TargetsAre before after given goal targets → All FitsRange targets
targets_fit before after (Some side) goal targets first second fits are = one_fits side targets fits are
targets_fit before after None None targets first second fits are = one_fits all_addresses targets all_fits are
targets_fit before after None (Some goal) targets first second fits are =
    own_targets_fit (is_outside_in_either goal) (addresses_in_either before after goal) (prefixes_in_either before after goal) targets
    (All-append FitsAddress (addresses_of before goal.before) (addresses_of after goal.after) (addresses_fit before goal.before first)
    (addresses_fit after goal.after second))
    (All-append FitsBlock (prefixes_of before goal.before) (prefixes_of after goal.after) (prefixes_fit before goal.before first)
    (prefixes_fit after goal.after second))
    are

-- ---- boxes

between_fit : (pairs : ReachPairs) (targets sources : List (ℕ × ℕ)) → ArePairsFit pairs → All FitsRange targets → All FitsRange sources
    → All Fits (boxes_between pairs targets sources)
between_fit pairs targets [] fits all sides = All-nil Fits
between_fit pairs targets (src ∷ sources) fits all sides =
    All-append Fits (map (sides_between pairs src) targets) (boxes_between pairs targets sources)
    (All-map Fits (sides_between pairs src) targets (λ k d within. between_fits pairs src _ fits (All-head FitsRange src sources sides)
    (all k d within)))
    (between_fit pairs targets sources fits all (All-tail FitsRange src sources sides))

pub boxes_fit : (before after : Description) (pairs : ReachPairs) (targets : List (ℕ × ℕ)) (start : ChangedEnd) → HasTypedInterfaces before
    → HasTypedInterfaces after → ArePairsFit pairs → All FitsRange targets
    → All Fits (boxes_between pairs targets (sources_of before after pairs.src start))
boxes_fit before after pairs targets start first second fits all =
    between_fit pairs targets (sources_of before after pairs.src start) fits all
    (sources_fit before after pairs.src start first second fits.src)
