use Rattle.std.proofs.Common.{◌∷◌, subst, map}
use Rattle.std.proofs.lemmas.List.Sorted.{IsPermutation-map}
use Rattle.std.specs.List.Sorted.{IsPermutation}
use Rattle.ordered_cover.specs.declared.corner.ByCorner.{ByCorner}
use Rattle.ordered_cover.proofs.open.OpenBoxes.push.Goals as goal

pub returns : goal.returns
returns c =
    subst (λ v. IsPermutation (c.args.part ∷ v) (map (λ (b : ByCorner). b.part) c.push.new.self.data.items)) c.self.view_is
    (IsPermutation-map (λ (b : ByCorner). b.part) _ _ c.in_ok-push.ensures.permutation)
