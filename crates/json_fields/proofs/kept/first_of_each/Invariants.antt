use Rattle.std.proofs.Common.{◌≡◌, ◌++◌, bytes_eq}
use Rattle.std.specs.Vec.Iter.{into_iter_items}
use Rattle.json_fields.specs.Kept.{first_of_each}
use Rattle.json_fields.proofs.KeptLemmas.{unseen}
use Rattle.json_fields.proofs.kept.first_of_each.Given as goal

abbrev pub invariant-loop-row : goal.invariant-loop-row
invariant-loop-row g l =
    l.kept.items ++ unseen bytes_eq g.R.HasId.id_of l.seen (first_of_each g.R.HasId.id_of (into_iter_items l.row-iterator))
    ≡ first_of_each g.R.HasId.id_of l.fn.rows.items
