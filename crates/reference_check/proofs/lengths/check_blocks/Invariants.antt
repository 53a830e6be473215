use Rattle.std.proofs.Common.{◌≡◌, drop, filter}
use Rattle.vpc_model.specs.Accepted.{is_long_far}
use Rattle.reference_check.specs.LongLists.{told_by_list}
use Rattle.reference_check.proofs.lengths.check_blocks.Given as goal

abbrev pub invariant-loop-far : goal.invariant-loop-far
invariant-loop-far l = told_by_list (filter (λ f. is_long_far f.kind) (drop l.far-index l.fars)) ≡ told_by_list (filter (λ f. is_long_far f.kind) l.fars)
