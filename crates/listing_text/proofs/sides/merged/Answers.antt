-- What is sorted.
use Rattle.std.proofs.Common.{◌∙◌, ◌++◌, ap, filter, map, not, subst}
use Rattle.std.specs.List.Sorted.{IsPermutation}
use Rattle.address_sets.specs.Runs.{is_in}
use Rattle.listing_text.specs.Sides.{alone, side_of}
use Rattle.listing_text.proofs.sides.merged.Goals as goal

pub returns-clause-same : goal.returns-clause-same
returns-clause-same c =
    let first = c.in_ok-add_lone.ensures ∙ ap (λ l. l ++ map alone (filter (λ a. not (is_in a c.args.set.now)) c.args.addresses.now)) c.new-sides.ensures.items in
    let made = c.in_ok-add_runs.ensures ∙ ap (λ l. l ++ map side_of c.args.runs.now) first in
    subst (λ l. IsPermutation l c.sort.new.sides.items) made c.sort.ensures.same
