use Rattle.std.proofs.Common.{rules}
use Rattle.std.proofs.lemmas.List.Sorted.{IsNonDecreasingBy-from_sort_by_key}
use Rattle.security_groups.proofs.port_tables.sort.Goals as goal

pub returns-clause-ascend : goal.returns-clause-ascend
returns-clause-ascend c = IsNonDecreasingBy-from_sort_by_key (λ r. r.q_from) _ c.sort_unstable_by_key.ensures.sorted (λ a r q k. search rules)
