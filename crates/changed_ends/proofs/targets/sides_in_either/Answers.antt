use Rattle.std.proofs.Common.{◌∙◌, List, subst, ℕ}
use Rattle.std.specs.Prelude.{IfOk}
use Rattle.listing_text.specs.Sides.{AreSidesOf}
use Rattle.prefix_text.specs.Block.{Block}
use Rattle.changed_ends.specs.Asked.{prefixes_in_either}
use Rattle.changed_ends.proofs.targets.sides_in_either.Goals as goal

pub returns : goal.returns
returns c =
    let blocks = c.as_slice.ensures.value ∙ c.in_ok-blocks.ensures in
    let sides = subst (λ (l : List Block). IfOk c.ascending_sides.result (λ v. AreSidesOf c.in_ok-addresses.addresses.items l v.items)) blocks c.ascending_sides.ensures in
    subst (λ (l : List ℕ). IfOk c.ascending_sides.result (λ v. AreSidesOf l (prefixes_in_either c.args.before.now c.args.after.now c.args.goal) v.items)) c.in_ok-addresses.ensures sides
