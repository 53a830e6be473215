use Rattle.std.proofs.Common.{◌≡◌, map, take}
use Rattle.security_groups.proofs.lists.numbers_of_lists.Given as goal

abbrev pub invariant-loop-list : goal.invariant-loop-list
invariant-loop-list l = l.numbers ≡ map (λ r. r.id) (take l.list-index l.n.lists)
