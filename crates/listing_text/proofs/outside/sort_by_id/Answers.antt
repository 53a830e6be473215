use Rattle.std.proofs.Common.{rules}
use Rattle.std.proofs.lemmas.Cmp.{nat_list_cmp_total}
use Rattle.std.proofs.lemmas.List.Sorted.{ranks_by}
use Rattle.std.specs.Cmp.Lexicographic.{slice_cmp}
use Rattle.std.specs.Ordering.{nat_cmp}
use Rattle.vpc_laws.specs.Types.{FarNo}
use Rattle.described_hosts.proofs.Sorting.{IsSortedBy-from_sort_by}
use Rattle.described_hosts.specs.Outside.{far_id}
use Rattle.listing_text.proofs.outside.sort_by_id.Goals as goal

pub returns-clause-sorted : goal.returns-clause-sorted
returns-clause-sorted c =
    let d = c.args.n.now in
    IsSortedBy-from_sort_by (λ (a b : FarNo). slice_cmp nat_cmp (far_id d a) (far_id d b)) _ (ranks_by nat_list_cmp_total (far_id d)) c.sort_unstable_by.ensures.sorted
    (λ a r q k. search rules)
