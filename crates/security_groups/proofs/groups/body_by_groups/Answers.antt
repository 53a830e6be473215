use Rattle.std.proofs.Common.{arith, get_or}
use Rattle.std.proofs.lemmas.List.{get_or_default}
use Rattle.vpc_base.proofs.Members.{row_has}
use Rattle.security_groups.proofs.GroupsOn.{one-group-allows}
use Rattle.security_groups.proofs.groups.body_by_groups.Goals as goal

pub returns-in-Some : goal.returns-in-Some
returns-in-Some c =
    let named = c.args.named.now in
    let k = c.loop-group.group-index in
    let n = get_or named k 0 in
    one-group-allows c.args.lists.now c.args.members.now c.args.groups.now named c.args.dir n c.args.i.now c.in-Some.body
    (row_has named k n (omega arith) (get_or_default named k 0 n (omega arith))) c.in-Some.ensures
