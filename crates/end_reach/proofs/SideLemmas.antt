-- The boxes that are asked for: none is empty, and no two share a header.
use Rattle.std.proofs.Common.{All, AllPairs, IfSome, List, None, Option, Some, map, subst, sym, ℕ}
use Rattle.header_boxes.specs.Boxes.{AreDisjoint, IsValid}
use Rattle.listing_text.proofs.SideLemmas.{AreSides, all_side, boxes_to-disjoint, boxes_to-valid, one_side, sides_of-sides}
use Rattle.listing_text.specs.Sides.{sides_between}
use Rattle.query_words.specs.Pairs.{IsSide}
use Rattle.query_words.specs.ReachQuery.{AreReachPairs}
use Rattle.query_words.specs.Sides.{all_addresses}
use Rattle.query_words.specs.declared.reaches.ReachPairs.{ReachPairs}
use Rattle.vpc_laws.specs.Types.{Description, End}
use Rattle.vpc_model.specs.Lookup.{interface_at}
use Rattle.vpc_model.specs.declared.places.End.TheVariants as ends
use Rattle.end_reach.specs.Asked.{AreTargets, own_addresses}

targets_are_sides : (d : Description) (given : Option (ℕ × ℕ)) (goal : Option End) (targets : List (ℕ × ℕ)) → IfSome given IsSide → AreTargets d given goal targets → AreSides targets
targets_are_sides d (Some side) goal targets valid are = subst AreSides (sym are) (one_side side valid)
targets_are_sides d None None targets valid are = subst AreSides (sym are) (one_side all_addresses all_side)
targets_are_sides d None (Some ends.Internet) targets valid are = subst AreSides (sym are) (one_side all_addresses all_side)
targets_are_sides d None (Some (ends.Far k)) targets valid are = subst AreSides (sym are) (one_side all_addresses all_side)
targets_are_sides d None (Some (ends.Interface i)) targets valid are = let e = interface_at d i in sides_of-sides (own_addresses e) e.prefixes targets are

module _ (d : Description) (pairs : ReachPairs) (goal : Option End) (targets : List (ℕ × ℕ)) (src : ℕ × ℕ) (given : AreReachPairs pairs) (are : AreTargets d pairs.dst goal targets) where
  sides : AreSides targets
  sides = targets_are_sides d pairs.dst goal targets given.dst are

  pub some_valid : IsSide src → All IsValid (map (sides_between pairs src) targets)
  some_valid side = boxes_to-valid pairs targets src given side sides.each

  pub some_disjoint : AllPairs AreDisjoint (map (sides_between pairs src) targets)
  some_disjoint = boxes_to-disjoint pairs targets src sides.apart
