use Rattle.std.proofs.lemmas.List.Sorted.{IsPermutation-refl}
use Rattle.security_groups.proofs.Joining.{same-sorted}
use Rattle.security_groups.proofs.tables.joined_table.Goals as goal

pub returns : goal.returns
returns c =
    same-sorted c.args.rules.now c.in_ok-joined.joined.items c.args.rules.now c.in_ok-table.table (IsPermutation-refl c.args.rules.now) c.in_ok-table.ensures c.in_ok-joined.ensures
