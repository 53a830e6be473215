use Rattle.security_groups.proofs.AlikeLemmas.{matches_same, twins_are_alike}
use Rattle.security_groups.specs.Alike.{HasSameMembers, IsSameList}
use Rattle.security_groups.proofs.alike.matches_same.Goals as goal

pub returns-then-lists : goal.returns-then-lists
returns-then-lists c groups =
    let names = c.args.names.now in
    let one = names.one.now in
    let other = names.other.now in
    let rule = c.args.rule.now in
    let far = c.args.other.now in
    let lists = twins_are_alike (IsSameList one other) names.lists.items c.as_slice.result.now c.as_slice-2.result.now c.as_slice-3.result.now rule.lists far.lists names.same_lists
    c.as_slice.ensures.value c.as_slice-2.ensures c.as_slice-3.ensures (c.are_twins-lists.ensures c.if-lists.true) in
    let members = twins_are_alike (HasSameMembers one other) names.members.items c.as_slice-4.result.now c.as_slice-5.result.now c.as_slice-6.result.now rule.groups far.groups names.same_members
    c.as_slice-4.ensures.value c.as_slice-5.ensures c.as_slice-6.ensures (c.are_twins-groups.ensures groups) in
    matches_same one other rule far (c.are_alike.ensures c.if-not-are_alike.false) (c.is_same.ensures c.if-not-is_same.false) lists members
