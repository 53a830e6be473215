-- The boxes that are asked for: none is empty, and no two share a header.
use Rattle.std.proofs.Common.{◌≡◌, ◌==◌, ◌∷◌, ◌∙◌, [], All, AllPairs, Bool, IfSome, List, None, Option, Some, ap, arith, cond, false, get_or, map, refl, subst, suc, sym, true, ℕ}
use Rattle.std.proofs.lemmas.Bool.Decides.{nat_tests}
use Rattle.std.proofs.lemmas.List.Elements.{All-append, All-cons, All-map, All-nil, All-head, All-tail}
use Rattle.std.proofs.lemmas.List.Kept.{AllPairs-cons}
use Rattle.vpc_base.proofs.Pairs.{AllPairs-joined}
use Rattle.header_boxes.proofs.Held.{in_from_holds}
use Rattle.header_boxes.specs.Boxes.{AreDisjoint, IsValid}
use Rattle.header_boxes.specs.declared.boxes.Box5.{Box5}
use Rattle.listing_text.proofs.SideLemmas.{AreApart, AreSides, all_side, boxes_to-disjoint, boxes_to-valid, one_side, sides_of-sides}
use Rattle.listing_text.specs.Sides.{alone, sides_between}
use Rattle.prefix_text.specs.Block.{Block}
use Rattle.query_words.specs.ChangeQuery.{primary_in}
use Rattle.query_words.specs.Pairs.{IsSide}
use Rattle.query_words.specs.ReachQuery.{AreReachPairs}
use Rattle.query_words.specs.Sides.{all_addresses}
use Rattle.query_words.specs.declared.changes.ChangeQuery.{ChangeQuery}
use Rattle.query_words.specs.declared.changes.ChangedEnd.{ChangedEnd}
use Rattle.query_words.specs.declared.reaches.ReachPairs.{ReachPairs}
use Rattle.vpc_laws.specs.Types.{Description}
use Rattle.changed_ends.specs.Asked.{AreAllOrSides, AreTargets, Comparison, TargetsAre, addresses_in_either, boxes_at, boxes_between, each_once, is_outside_in_either, prefixes_in_either, sources_of}

-- ---- sources

no_sides : AreSides []
no_sides = record { each = All-nil IsSide; apart = λ i j d lt inside. absurd (omega (arith, inside)) }

lone_side : (a : ℕ) → AreSides (alone a ∷ [])
lone_side a = one_side (alone a) (omega arith)

two_apart : (a b : ℕ) → (a == b) ≡ false → AreApart (alone a) (alone b)
two_apart a b differ x s0 s1 t0 t1 = let same : a ≡ b = omega (arith, s0, s1, t0, t1) in grind (arith, nat_tests)

two_sides : (a b : ℕ) (same : Bool) → (a == b) ≡ same → AreSides (map alone (cond same (a ∷ []) (a ∷ b ∷ [])))
two_sides a b true is = lone_side a
two_sides a b false is = record {
  each = All-cons IsSide (alone a) (alone b ∷ []) (omega arith) (All-cons IsSide (alone b) [] (omega arith) (All-nil IsSide));
  apart =
      AllPairs-cons AreApart (alone a) (alone b ∷ []) (All-cons (AreApart (alone a)) (alone b) [] (two_apart a b is) (All-nil (AreApart (alone a)))) ((lone_side b).apart);
}

once_sides : (one other : Option ℕ) → AreSides (map alone (each_once one other))
once_sides None None = no_sides
once_sides None (Some b) = lone_side b
once_sides (Some a) None = lone_side a
once_sides (Some a) (Some b) = two_sides a b (a == b) refl

own_sides : (before after : Description) (start : ChangedEnd) (net : Bool)
    → AreSides (cond net (all_addresses ∷ []) (map alone (each_once (primary_in before start.before) (primary_in after start.after))))
own_sides before after start true = one_side all_addresses all_side
own_sides before after start false = once_sides (primary_in before start.before) (primary_in after start.after)

sources_are_sides : (before after : Description) (given : Option (ℕ × ℕ)) (start : ChangedEnd) → IfSome given IsSide → AreSides (sources_of before after given start)
sources_are_sides before after (Some side) start valid = one_side side valid
sources_are_sides before after None start valid = own_sides before after start (is_outside_in_either start)

-- ---- destinations

all_or_sides : (net : Bool) (addresses : List ℕ) (blocks : List Block) (sides : List (ℕ × ℕ)) → AreAllOrSides net addresses blocks sides → AreSides sides
all_or_sides true addresses blocks sides is = subst AreSides (sym is) (one_side all_addresses all_side)
all_or_sides false addresses blocks sides is = sides_of-sides addresses blocks sides is

targets_are_sides : (before after : Description) (given : Option (ℕ × ℕ)) (goal : Option ChangedEnd) (targets : List (ℕ × ℕ)) → IfSome given IsSide
    → TargetsAre before after given goal targets → AreSides targets
targets_are_sides before after (Some side) goal targets valid are = subst AreSides (sym are) (one_side side valid)
targets_are_sides before after None None targets valid are = subst AreSides (sym are) (one_side all_addresses all_side)
targets_are_sides before after None (Some goal) targets valid are =
    all_or_sides (is_outside_in_either goal) (addresses_in_either before after goal) (prefixes_in_either before after goal) targets are

-- ---- boxes

boxes_are_valid : (pairs : ReachPairs) (targets sources : List (ℕ × ℕ)) → AreReachPairs pairs → All IsSide sources → All IsSide targets → All IsValid (boxes_between pairs targets sources)
boxes_are_valid pairs targets [] given from to = All-nil IsValid
boxes_are_valid pairs targets (src ∷ sources) given from to =
    All-append IsValid (map (sides_between pairs src) targets) (boxes_between pairs targets sources)
    (boxes_to-valid pairs targets src given (All-head IsSide src sources from) to)
    (boxes_are_valid pairs targets sources given (All-tail IsSide src sources from) to)

-- boxes between other sources share no header with these
abbrev IsFromOther : ℕ × ℕ → Box5 → Type 0
IsFromOther src b = AreApart src b.src

all_from : (pairs : ReachPairs) (targets : List (ℕ × ℕ)) (src other : ℕ × ℕ) → AreApart src other → All (IsFromOther src) (map (sides_between pairs other) targets)
all_from pairs targets src other apart = All-map (IsFromOther src) (sides_between pairs other) targets (λ k d lt. apart)

others_from : (pairs : ReachPairs) (targets sources : List (ℕ × ℕ)) (src : ℕ × ℕ) → All (AreApart src) sources → All (IsFromOther src) (boxes_between pairs targets sources)
others_from pairs targets [] src apart = All-nil (IsFromOther src)
others_from pairs targets (other ∷ sources) src apart =
    All-append (IsFromOther src) (map (sides_between pairs other) targets) (boxes_between pairs targets sources)
    (all_from pairs targets src other (All-head (AreApart src) other sources apart))
    (others_from pairs targets sources src (All-tail (AreApart src) other sources apart))

disjoint_by_source : (pairs : ReachPairs) (src dst : ℕ × ℕ) (b : Box5) → IsFromOther src b → AreDisjoint (sides_between pairs src dst) b
disjoint_by_source pairs src dst b apart h one other =
    let a = in_from_holds h (sides_between pairs src dst) one in
    let c = in_from_holds h b other in
    apart h.src a.src.0 a.src.1 c.src.0 c.src.1

across_sources : (pairs : ReachPairs) (targets : List (ℕ × ℕ)) (src : ℕ × ℕ) (boxes : List Box5) → All (IsFromOther src) boxes
    → All (λ b. All (AreDisjoint b) boxes) (map (sides_between pairs src) targets)
across_sources pairs targets src boxes apart =
    All-map (λ b. All (AreDisjoint b) boxes) (sides_between pairs src) targets
    (λ k d lt i x below. disjoint_by_source pairs src (get_or targets k d) (get_or boxes i x) (apart i x below))

boxes_are_disjoint : (pairs : ReachPairs) (targets sources : List (ℕ × ℕ)) → AllPairs AreApart targets → AllPairs AreApart sources → AllPairs AreDisjoint (boxes_between pairs targets sources)
boxes_are_disjoint pairs targets [] to from = λ i j d lt inside. absurd (omega (arith, inside))
boxes_are_disjoint pairs targets (src ∷ sources) to from =
    AllPairs-joined AreDisjoint (map (sides_between pairs src) targets) (boxes_between pairs targets sources)
    (boxes_to-disjoint pairs targets src to)
    (boxes_are_disjoint pairs targets sources to (λ i j d lt inside. from (suc i) (suc j) d (omega arith) (omega arith)))
    (across_sources pairs targets src (boxes_between pairs targets sources)
    (others_from pairs targets sources src (λ k d lt. from 0 (suc k) d (omega arith) (omega arith))))

-- those of a start
module _ (c : Comparison) (targets : List (ℕ × ℕ)) (start : ChangedEnd) where
  -- by the parts of what is asked
  pub boxes_at-as : (before after : Description) (query : ChangeQuery) (sources : List (ℕ × ℕ)) → before ≡ c.before → after ≡ c.after → query ≡ c.query
      → sources ≡ sources_of before after query.pairs.src start → boxes_between query.pairs targets sources ≡ boxes_at c targets start
  boxes_at-as before after query sources first second third is =
      ap (boxes_between query.pairs targets) is
      ∙ (ap (λ (d : Description). boxes_between query.pairs targets (sources_of d after query.pairs.src start)) first
      ∙ (ap (λ (d : Description). boxes_between query.pairs targets (sources_of c.before d query.pairs.src start)) second
      ∙ ap (λ (q : ChangeQuery). boxes_between q.pairs targets (sources_of c.before c.after q.pairs.src start)) third))

  module _ (given : AreReachPairs c.query.pairs) (are : AreTargets c targets) where
    from : AreSides (sources_of c.before c.after c.query.pairs.src start)
    from = sources_are_sides c.before c.after c.query.pairs.src start given.src

    to : AreSides targets
    to = targets_are_sides c.before c.after c.query.pairs.dst c.query.goal targets given.dst are

    pub boxes_at-valid : All IsValid (boxes_at c targets start)
    boxes_at-valid = boxes_are_valid c.query.pairs targets (sources_of c.before c.after c.query.pairs.src start) given from.each to.each

    pub boxes_at-disjoint : AllPairs AreDisjoint (boxes_at c targets start)
    boxes_at-disjoint = boxes_are_disjoint c.query.pairs targets (sources_of c.before c.after c.query.pairs.src start) to.apart from.apart
