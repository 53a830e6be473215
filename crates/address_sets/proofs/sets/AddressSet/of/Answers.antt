use Rattle.std.proofs.Common.{filter, subst}
use Rattle.std.specs.List.Sorted.{IsPermutation}
use Rattle.address_sets.specs.Runs.{has_some}
use Rattle.address_sets.proofs.Joining.{are_runs-joined, is_in-joined_some}
use Rattle.address_sets.proofs.sets.AddressSet.of.Goals as goal

pub invariant_of-result : goal.invariant_of-result
invariant_of-result c =
    let same : IsPermutation (filter has_some c.args.runs.items) c.sort.new.runs.items = subst (λ rs. IsPermutation rs c.sort.new.runs.items) c.drop_empty.ensures c.sort.ensures.same in
    rw c.in_ok-joined.ensures (rw c.as_slice.ensures.value (are_runs-joined c.args.runs.items _ same c.sort.ensures.sorted))

pub returns : goal.returns
returns c =
    let same : IsPermutation (filter has_some c.args.runs.items) c.sort.new.runs.items = subst (λ rs. IsPermutation rs c.sort.new.runs.items) c.drop_empty.ensures c.sort.ensures.same in
    λ a. rw c.in_ok-joined.ensures (rw c.as_slice.ensures.value (is_in-joined_some a c.args.runs.items _ same c.sort.ensures.sorted))
