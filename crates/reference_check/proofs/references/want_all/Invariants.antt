use Rattle.std.proofs.Common.{◌≡◌, drop}
use Rattle.std.specs.List.{flat_map}
use Rattle.vpc_model.specs.Accepted.{wanted}
use Rattle.reference_check.specs.Kinds.{has_row}
use Rattle.reference_check.proofs.references.want_all.Given as goal

abbrev pub invariant-loop-id : goal.invariant-loop-id
invariant-loop-id l = flat_map (λ x. wanted (has_row l.rows l.kind x) l.from x) (drop l.id-index l.ids) ≡ flat_map (λ x. wanted (has_row l.rows l.kind x) l.from x) l.ids
