use Rattle.std.proofs.Common.{◌≡◌, bytes_eq, drop, map, take}
use Rattle.vpc_model.specs.Accepted.{repeats, repeats_after}
use Rattle.reference_check.proofs.duplicates.numbered.Given as goal

abbrev pub invariant-loop-row : goal.invariant-loop-row
invariant-loop-row g l = record {
  ids : l.ids ≡ map g.R.Row.id_of (take l.row-index l.rows);
  rest : repeats_after bytes_eq l.ids (map g.R.Row.id_of (drop l.row-index l.rows)) ≡ repeats bytes_eq (map g.R.Row.id_of l.rows);
}
