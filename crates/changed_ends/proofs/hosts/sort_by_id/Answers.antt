use Rattle.std.proofs.Common.{rules}
use Rattle.std.proofs.lemmas.Cmp.{nat_list_cmp_total}
use Rattle.std.proofs.lemmas.List.Sorted.{ranks_by}
use Rattle.std.specs.Cmp.Lexicographic.{slice_cmp}
use Rattle.std.specs.Ordering.{nat_cmp}
use Rattle.described_hosts.proofs.Sorting.{IsSortedBy-from_sort_by}
use Rattle.query_words.specs.declared.changes.ChangedEnd.{ChangedEnd}
use Rattle.changed_ends.specs.Asked.{changed_id}
use Rattle.changed_ends.proofs.hosts.sort_by_id.Goals as goal

pub returns-clause-sorted : goal.returns-clause-sorted
returns-clause-sorted c =
    let before = c.args.before.now in
    let after = c.args.after.now in
    IsSortedBy-from_sort_by (λ (a b : ChangedEnd). slice_cmp nat_cmp (changed_id before after a) (changed_id before after b)) _ (ranks_by nat_list_cmp_total (changed_id before after)) c.sort_unstable_by.ensures.sorted
    (λ a r q k. search rules)
