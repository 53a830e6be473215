use Rattle.std.proofs.Common.{◌≡◌, rules}
use Rattle.std.proofs.lemmas.Fn.{always_returns_same}
use Rattle.std.proofs.lemmas.List.Sorted.{ranks_by}
use Rattle.std.specs.Ordering.{is_lt}
use Rattle.header_boxes.proofs.Order.{order_of_total}
use Rattle.header_boxes.specs.Boxes.{low_of}
use Rattle.box_gather.specs.Pile.{is_before}
use Rattle.box_gather.proofs.pile.sort.Goals as goal

pub returns-clause-rise : goal.returns-clause-rise
returns-clause-rise g c =
    c.sort_unstable_by.ensures.sorted (λ a b. is_before (low_of a.part) (low_of b.part)) (ranks_by order_of_total (λ r. low_of r.part))
    (always_returns_same _ (λ a r. is_lt r ≡ is_before (low_of a.0.now.part) (low_of a.1.0.now.part)) _ (λ a r q k. search rules))
