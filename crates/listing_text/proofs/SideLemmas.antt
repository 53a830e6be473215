-- Sides of addresses: none is empty, and no two share a number, nor do the boxes between them share a header.
use Rattle.std.proofs.Common.{◌≤◌, ◌⊎◌, ◌∷◌, [], All, AllPairs, List, arith, get_or, inl, inr, map, ℕ}
use Rattle.std.proofs.lemmas.List.Elements.{All-cons, All-contains_itself, All-map, All-nil}
use Rattle.vpc_base.proofs.Pairs.{AllPairs-map}
use Rattle.header_boxes.proofs.Held.{in_from_holds}
use Rattle.header_boxes.specs.Boxes.{AreDisjoint, IsValid}
use Rattle.query_words.specs.Pairs.{IsSide}
use Rattle.query_words.specs.ReachQuery.{AreReachPairs}
use Rattle.query_words.specs.Sides.{all_addresses}
use Rattle.query_words.specs.declared.reaches.ReachPairs.{ReachPairs}
use Rattle.prefix_text.specs.Block.{Block}
use Rattle.listing_text.specs.Sides.{AreSidesOf, IsLone, IsWholeRun, sides_between}

-- no number is in both sides
abbrev pub AreApart : ℕ × ℕ → ℕ × ℕ → Type 0
AreApart s t = (x : ℕ) → s.0 ≤ x → x ≤ s.1 → t.0 ≤ x → x ≤ t.1 → ⊥

-- sides that aren't empty, no two of which share a number
pub record AreSides (sides : List (ℕ × ℕ)) : Type 0 where
  pub each : All IsSide sides
  pub apart : AllPairs AreApart sides

pub one_side : (s : ℕ × ℕ) → IsSide s → AreSides (s ∷ [])
one_side s side = record {
  each = All-cons IsSide s [] side (All-nil IsSide);
  apart = λ i j d lt inside. absurd (omega (arith, lt, inside));
}

pub all_side : IsSide all_addresses
all_side = omega arith

-- the sides of some addresses and blocks
is_some_side : (addresses : List ℕ) (blocks : List Block) (s : ℕ × ℕ) → IsLone addresses blocks s ⊎ IsWholeRun blocks s → IsSide s
is_some_side addresses blocks s (inl lone) = let one = lone.one in omega (arith, one)
is_some_side addresses blocks s (inr whole) = whole.some

pub sides_of-sides : (addresses : List ℕ) (blocks : List Block) (sides : List (ℕ × ℕ)) → AreSidesOf addresses blocks sides → AreSides sides
sides_of-sides addresses blocks sides are = record {
  each = λ k d lt. is_some_side addresses blocks (get_or sides k d) ((are.members (get_or sides k d)).0 (All-contains_itself sides k d lt));
  apart = λ i j d lt inside x s0 s1 t0 t1. let rise = are.ascending i j d lt inside in absurd (omega (arith, rise, s1, t0));
}

-- ---- boxes

pub boxes_to-valid : (pairs : ReachPairs) (targets : List (ℕ × ℕ)) (src : ℕ × ℕ) → AreReachPairs pairs → IsSide src → All IsSide targets → All IsValid (map (sides_between pairs src) targets)
boxes_to-valid pairs targets src given valid sides =
    All-map IsValid (sides_between pairs src) targets (λ k d lt. record { proto = given.proto; src = valid; dst = sides k d lt; p = given.p; q = given.q })

pub boxes_to-disjoint : (pairs : ReachPairs) (targets : List (ℕ × ℕ)) (src : ℕ × ℕ) → AllPairs AreApart targets → AllPairs AreDisjoint (map (sides_between pairs src) targets)
boxes_to-disjoint pairs targets src apart =
    AllPairs-map AreDisjoint (sides_between pairs src) targets
    (λ i j x lt inside h one other.
    let a = in_from_holds h (sides_between pairs src (get_or targets i x)) one in
    let b = in_from_holds h (sides_between pairs src (get_or targets j x)) other in
    apart i j x lt inside h.dst a.dst.0 a.dst.1 b.dst.0 b.dst.1)
