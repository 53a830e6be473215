-- What a set of the blocks has, beside the addresses that it lacks.
use Rattle.std.proofs.Common.{◌++◌, List, filter, map, not, subst, ℕ}
use Rattle.std.specs.List.Sorted.{IsPermutation}
use Rattle.address_sets.specs.Runs.{AreRuns, is_in}
use Rattle.address_sets.specs.declared.sets.Run.{Run}
use Rattle.listing_text.specs.Sides.{alone, side_of}
use Rattle.listing_text.proofs.Runs.{are_sides}
use Rattle.listing_text.proofs.sides.ascending_sides.Goals as goal

pub returns : goal.returns
returns c =
    let set = c.in_ok-set.set in
    let order = c.ascending-order in
    let kept : List ℕ → List (ℕ × ℕ) = λ l. map alone (filter (λ a. not (is_in a set)) l) in
    let sides = c.in_ok-merged.field-0.items in
    let first = subst (λ l. IsPermutation (kept l ++ map side_of c.runs-runs.result.now) sides) c.as_slice.ensures.value c.in_ok-merged.ensures.same in
    let moved = subst (λ (l : List Run). IsPermutation (kept order.result.items ++ map side_of l) sides) c.runs-runs.ensures.same first in
    let apart = subst AreRuns c.runs-runs.ensures.same c.runs-runs.ensures.apart in
    are_sides c.args.addresses.items c.args.blocks.now order.result.items set order.ensures.order order.ensures.members apart c.in_ok-set.ensures sides moved c.in_ok-merged.ensures.sorted
