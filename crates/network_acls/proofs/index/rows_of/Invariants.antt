use Rattle.std.proofs.Common.{◌≡◌, take}
use Rattle.std.specs.List.{filter}
use Rattle.vpc_model.specs.Acls.{is_of_dir}
use Rattle.network_acls.proofs.index.rows_of.Given as goal

abbrev pub invariant-loop-row : goal.invariant-loop-row
invariant-loop-row l = l.kept.items ≡ filter (is_of_dir l.dir) (take l.row-index l.rows)
