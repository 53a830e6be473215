use Rattle.std.proofs.Common.{◌≡◌, drop}
use Rattle.std.specs.List.{flat_map}
use Rattle.vpc_model.specs.Accepted.{is_subnet_of, wanted}
use Rattle.reference_check.proofs.references.want_subnets.Given as goal

abbrev pub invariant-loop-id : goal.invariant-loop-id
invariant-loop-id l = flat_map (λ x. wanted (is_subnet_of l.rows l.vpc x) l.from x) (drop l.id-index l.ids) ≡ flat_map (λ x. wanted (is_subnet_of l.rows l.vpc x) l.from x) l.ids
