use Rattle.std.proofs.Common.{filter, subst}
use Rattle.std.specs.List.Sorted.{IsPermutation}
use Rattle.number_tables.specs.Runs.{has_some}
use Rattle.number_tables.proofs.Apart.{are_runs-sorted, member-sorted, value_of-sorted}
use Rattle.number_tables.proofs.runs.RunTable.of.Goals as goal

pub invariant_of-result : goal.invariant_of-result
invariant_of-result g c =
    let same : IsPermutation (filter has_some c.args.runs.items) c.sort.new.runs.items = subst (λ rs. IsPermutation rs c.sort.new.runs.items) c.drop_empty.ensures c.sort.ensures.same in
    are_runs-sorted c.args.runs.items _ c.requires same c.sort.ensures.sorted

pub returns-clause-values : goal.returns-clause-values
returns-clause-values g c =
    let same : IsPermutation (filter has_some c.args.runs.items) c.sort.new.runs.items = subst (λ rs. IsPermutation rs c.sort.new.runs.items) c.drop_empty.ensures c.sort.ensures.same in
    λ k. value_of-sorted k c.args.runs.items _ c.requires same

pub returns-clause-runs : goal.returns-clause-runs
returns-clause-runs g c =
    let same : IsPermutation (filter has_some c.args.runs.items) c.sort.new.runs.items = subst (λ rs. IsPermutation rs c.sort.new.runs.items) c.drop_empty.ensures c.sort.ensures.same in
    λ r has. member-sorted c.args.runs.items _ r same has
