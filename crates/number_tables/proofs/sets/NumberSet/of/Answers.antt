use Rattle.std.proofs.Common.{◌==◌, sym}
use Rattle.std.proofs.lemmas.List.Sorted.{list_any-IsPermutation}
use Rattle.number_tables.proofs.sets.NumberSet.of.Goals as goal

pub returns : goal.returns
returns c = λ k. sym (list_any-IsPermutation (λ n. n == k) _ _ c.sort_numbers.ensures.same)
