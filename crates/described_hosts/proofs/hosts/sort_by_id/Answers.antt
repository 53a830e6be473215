use Rattle.std.proofs.Common.{rules}
use Rattle.std.proofs.lemmas.Cmp.{nat_list_cmp_total}
use Rattle.std.proofs.lemmas.List.Sorted.{ranks_by}
use Rattle.std.specs.Cmp.Lexicographic.{slice_cmp}
use Rattle.std.specs.Ordering.{nat_cmp}
use Rattle.vpc_laws.specs.Types.{EniNo}
use Rattle.described_hosts.specs.Hosts.{id_of}
use Rattle.described_hosts.proofs.Sorting.{IsSortedBy-from_sort_by}
use Rattle.described_hosts.proofs.hosts.sort_by_id.Goals as goal

pub returns-clause-sorted : goal.returns-clause-sorted
returns-clause-sorted c =
    let d = c.args.n.now in
    IsSortedBy-from_sort_by (λ (a b : EniNo). slice_cmp nat_cmp (id_of d a) (id_of d b)) _ (ranks_by nat_list_cmp_total (id_of d)) c.sort_unstable_by.ensures.sorted
    (λ a r q k. search rules)
