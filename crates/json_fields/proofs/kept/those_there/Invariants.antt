use Rattle.std.proofs.Common.{◌≡◌, ◌++◌}
use Rattle.std.specs.Vec.Iter.{into_iter_items}
use Rattle.json_fields.specs.Kept.{those_there}
use Rattle.json_fields.proofs.kept.those_there.Given as goal

abbrev pub invariant-loop-value : goal.invariant-loop-value
invariant-loop-value g l = l.kept.items ++ those_there (into_iter_items l.value-iterator) ≡ those_there l.fn.all.items
