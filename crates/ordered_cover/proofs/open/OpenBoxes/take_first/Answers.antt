use Rattle.std.proofs.Common.{◌≡◌, true, false, ◌∷◌, sym, subst, map, ap, ◌∙◌, All}
use Rattle.std.proofs.lemmas.List.Sorted.{IsPermutation-map}
use Rattle.std.proofs.lemmas.List.Elements.{All-from_recursion, All-map, All-weaker}
use Rattle.std.specs.Ordering.{is_lt}
use Rattle.std.specs.List.Sorted.{IsPermutation}
use Rattle.vpc_base.specs.Header.{IsBefore}
use Rattle.header_boxes.specs.Boxes.{low_of}
use Rattle.header_boxes.specs.declared.boxes.Box5.{Box5}
use Rattle.ordered_cover.specs.Corner.{later_first}
use Rattle.ordered_cover.specs.Open.{IsLeast}
use Rattle.ordered_cover.specs.declared.corner.ByCorner.{ByCorner}
use Rattle.ordered_cover.proofs.open.OpenBoxes.take_first.Goals as goal

pub returns-clause-taken : goal.returns-clause-taken
returns-clause-taken c =
    subst (λ v. IsPermutation v (c.in_ok-first.first.part ∷ map (λ (b : ByCorner). b.part) c.pop.new.self.data.items)) c.self.view_is
    (IsPermutation-map (λ (b : ByCorner). b.part) _ _ c.in_ok-first.ensures.permutation)

pub returns-clause-least : goal.returns-clause-least
returns-clause-least c =
    let first = c.in_ok-first.first in
    let items = c.self.inside.heap.data.items in
    let greatest : All (λ (y : ByCorner). is_lt (later_first first y) ≡ false) items = All-from_recursion _ items (c.in_ok-first.ensures.heap_order c.self.invariant).1 in
    let least : All (λ (y : ByCorner). ¬ (IsBefore (low_of y.part) (low_of first.part))) items = All-weaker (λ (y : ByCorner). is_lt (later_first first y) ≡ false) (λ (y : ByCorner). ¬ (IsBefore (low_of y.part) (low_of first.part))) (λ y e h. let t : true ≡ false = sym (ap is_lt h) ∙ e in cc) items greatest in
    subst (IsLeast first.part) c.self.view_is (All-map (λ (b : Box5). ¬ (IsBefore (low_of b) (low_of first.part))) (λ (y : ByCorner). y.part) items least)
