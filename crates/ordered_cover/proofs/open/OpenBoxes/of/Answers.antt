use Rattle.std.proofs.Common.{[], ◌∷◌, map, ap}
use Rattle.std.specs.List.Sorted.{IsPermutation}
use Rattle.ordered_cover.specs.declared.corner.ByCorner.{ByCorner}
use Rattle.ordered_cover.proofs.Lists.{single}
use Rattle.ordered_cover.proofs.open.OpenBoxes.of.Goals as goal

pub returns : goal.returns
returns c =
    let first : ByCorner = record { part = c.args.first } in
    let moved : IsPermutation (first ∷ []) c.push.new.self.data.items = rw c.new-heap.ensures.items at c.in_ok-push.ensures.permutation in
    ap (map (λ (b : ByCorner). b.part)) (single first _ moved)
