use Rattle.std.proofs.Common.{◌≡◌, ◌++◌, drop, filter, map}
use Rattle.std.specs.List.{enumerate_from}
use Rattle.vpc_model.specs.Acls.{is_of_dir}
use Rattle.unused_rules.specs.Rules.{acl_row, rows_in}
use Rattle.unused_rules.proofs.rules.add_rows.Given as goal

-- those that remain make the list whole
abbrev pub invariant-loop-place : goal.invariant-loop-place
invariant-loop-place l =
    l.rules.items ++ map (acl_row l.acl) (filter (λ row. is_of_dir l.dir row.1) (enumerate_from l.place (drop l.place l.rows)))
    ≡ l.initial.rules.items ++ rows_in l.acl l.dir l.rows
