use Rattle.std.proofs.Common.{◌∙◌, ◌++◌, List, ap, subst, ℕ}
use Rattle.std.specs.List.{flat_map}
use Rattle.std.specs.Prelude.{IfOk}
use Rattle.listing_text.specs.Sides.{AreSidesOf}
use Rattle.prefix_text.specs.Block.{Block}
use Rattle.vpc_model.specs.Lookup.{both_addresses}
use Rattle.end_reach.proofs.sides.own_targets.Goals as goal

pub returns : goal.returns
returns c =
    let made = c.in_ok-add_pairs.ensures ∙ (ap (λ l. l ++ flat_map both_addresses c.as_slice.result.now) c.new-addresses.ensures.items ∙ ap (flat_map both_addresses) c.as_slice.ensures) in
    let sides = subst (λ (l : List ℕ). IfOk c.ascending_sides.result (λ v. AreSidesOf l c.as_slice-2.result.now v.items)) made c.ascending_sides.ensures in
    subst (λ (l : List Block). IfOk c.ascending_sides.result (λ v. AreSidesOf (flat_map both_addresses c.args.interface.now.addresses) l v.items)) c.as_slice-2.ensures sides
