-- The boxes that a question of `reach` is about hold numbers of their fields.
use Rattle.std.proofs.Common.{◌≡◌, ◌<◌, ◌^◌, ◌⊎◌, ◌∷◌, [], All, IfSome, List, None, Option, Some, arith, get_or, inl, inr, lit<, nat_le, subst, sym, true, ℕ}
use Rattle.std.specs.Option.{option_map}
use Rattle.std.proofs.lemmas.Bool.{and_parts, leb-true}
use Rattle.std.proofs.lemmas.List.Elements.{All-cons, All-contains, All-contains_itself, All-map, All-nil}
use Rattle.end_reach.specs.Asked.{AreTargets, boxes_at, boxes_by, own_addresses, sources_of}
use Rattle.listing_text.specs.Sides.{AreSidesOf, IsLone, IsWholeRun, alone, is_held, sides_between}
use Rattle.prefix_text.specs.Block.{Block, holds, last_of}
use Rattle.query_words.specs.Sides.{all_addresses}
use Rattle.query_words.specs.declared.reaches.ReachPairs.{ReachPairs}
use Rattle.query_words.specs.declared.reaches.ReachQuery.{ReachQuery}
use Rattle.report_reader.specs.ReadsBack.{Fits}
use Rattle.vpc_base.proofs.Members.{list_any-member}
use Rattle.vpc_laws.specs.Types.{Description, End}
use Rattle.vpc_model.specs.Lookup.{interface_at}
use Rattle.vpc_model.specs.declared.places.End.TheVariants as ends
use Rattle.listing_laws.specs.Typed.{HasTypedInterfaces}
use Rattle.listing_laws.proofs.PairsRead.{ArePairsFit}
use Rattle.listing_laws.proofs.Readers.{FitsSide}
use Rattle.listing_laws.proofs.Typing.{known}

-- a range of addresses of 32 bits
abbrev pub FitsRange : ℕ × ℕ → Type 0
FitsRange s = s.1 < 2 ^ 32

pub all_fits : FitsRange all_addresses
all_fits = lit< tt

-- ---- sources

alone_fits : (o : Option ℕ) → IfSome o (λ a. a < 2 ^ 32) → FitsSide (option_map alone o)
alone_fits None fits = tt
alone_fits (Some a) fits = fits

source_fits : (d : Description) (given : Option (ℕ × ℕ)) (start : End) → HasTypedInterfaces d → FitsSide given
    → FitsSide (sources_of d given start)
source_fits d (Some side) start typed fits = fits
source_fits d None ends.Internet typed fits = all_fits
source_fits d None (ends.Far k) typed fits = all_fits
source_fits d None (ends.Interface i) typed fits = let k = known d i typed in alone_fits _ k.primary

-- ---- destinations

-- what a block of addresses of 32 bits holds
held_fits : (blocks : List Block) (a : ℕ) → All (λ b. last_of b < 2 ^ 32) blocks → is_held blocks a ≡ true → a < 2 ^ 32
held_fits blocks a fit held =
    let at = list_any-member (holds a) blocks held in
    let below = leb-true a (last_of at.0) (and_parts (nat_le at.0.first a) (nat_le a (last_of at.0)) at.2).1 in
    let last = All-contains (λ (b : Block). last_of b < 2 ^ 32) blocks at.0 fit at.1 in
    omega (arith, below, last)

-- the sides of some addresses and blocks of 32 bits
side_fits : (addresses : List ℕ) (blocks : List Block) (s : ℕ × ℕ) → All (λ a. a < 2 ^ 32) addresses → All (λ b. last_of b < 2 ^ 32) blocks
    → IsLone addresses blocks s ⊎ IsWholeRun blocks s → FitsRange s
side_fits addresses blocks s fit fits (inl lone) =
    subst (λ a. a < 2 ^ 32) (sym lone.one) (All-contains (λ a. a < 2 ^ 32) addresses s.0 fit lone.among)
side_fits addresses blocks s fit fits (inr whole) = held_fits blocks s.1 fits (whole.held s.1 whole.some (omega arith))

pub sides_fit : (addresses : List ℕ) (blocks : List Block) (sides : List (ℕ × ℕ)) → All (λ a. a < 2 ^ 32) addresses
    → All (λ b. last_of b < 2 ^ 32) blocks → AreSidesOf addresses blocks sides → All FitsRange sides
sides_fit addresses blocks sides fit fits are =
    λ k d within. side_fits addresses blocks (get_or sides k d) fit fits
    ((are.members (get_or sides k d)).0 (All-contains_itself sides k d within))

pub one_fits : (side : ℕ × ℕ) (sides : List (ℕ × ℕ)) → FitsRange side → sides ≡ side ∷ [] → All FitsRange sides
one_fits side sides fits are = subst (All FitsRange) (sym are) (All-cons FitsRange side [] fits (All-nil FitsRange))

pub targets_fit : (d : Description) (given : Option (ℕ × ℕ)) (goal : Option End) (targets : List (ℕ × ℕ)) → HasTypedInterfaces d
    → FitsSide given → AreTargets d given goal targets → All FitsRange targets
targets_fit d (Some side) goal targets typed fits are = one_fits side targets fits are
targets_fit d None None targets typed fits are = one_fits all_addresses targets all_fits are
targets_fit d None (Some ends.Internet) targets typed fits are = one_fits all_addresses targets all_fits are
targets_fit d None (Some (ends.Far k)) targets typed fits are = one_fits all_addresses targets all_fits are
targets_fit d None (Some (ends.Interface i)) targets typed fits are =
    let k = known d i typed in
    let e = interface_at d i in
    sides_fit (own_addresses e) e.prefixes targets k.addresses k.prefixes are

-- ---- boxes

pub between_fits : (pairs : ReachPairs) (src dst : ℕ × ℕ) → ArePairsFit pairs → FitsRange src → FitsRange dst
    → Fits (record { proto = pairs.proto; src = src; dst = dst; p = pairs.p; q = pairs.q })
between_fits pairs src dst fits a b = record { proto = fits.proto; src = a; dst = b; p = fits.p; q = fits.q }

by_fit : (pairs : ReachPairs) (targets : List (ℕ × ℕ)) (source : Option (ℕ × ℕ)) → ArePairsFit pairs → All FitsRange targets
    → FitsSide source → All Fits (boxes_by pairs targets source)
by_fit pairs targets None fits all side = All-nil Fits
by_fit pairs targets (Some src) fits all side =
    All-map Fits (sides_between pairs src) targets (λ k d within. between_fits pairs src _ fits side (all k d within))

pub boxes_fit : (d : Description) (query : ReachQuery) (targets : List (ℕ × ℕ)) (start : End) → HasTypedInterfaces d
    → ArePairsFit query.pairs → All FitsRange targets → All Fits (boxes_at d query targets start)
boxes_fit d query targets start typed fits all =
    let pairs = query.pairs in
    by_fit query.pairs targets (sources_of d pairs.src start) fits all (source_fits d pairs.src start typed fits.src)
