use Rattle.std.proofs.Common.{arith, get_or, true}
use Rattle.std.proofs.lemmas.List.{get_or_default}
use Rattle.vpc_base.proofs.Members.{row_has}
use Rattle.image_tests.proofs.Trying.{any_passes, none_passes_yet, one_passes, trying_first, trying_last, trying_next}
use Rattle.security_groups.proofs.GroupsOn.{group_of_rest, group_test}
use Rattle.security_groups.proofs.groups.each_group_on.Goals as goal
use Rattle.security_groups.specs.Dividing.{DivideGroups}

pub loop-group-init : goal.loop-group-init
loop-group-init c =
    let test = group_test c.args.lists.now c.args.members.now c.args.groups.now c.args.dir c.args.i.now in
    trying_first (DivideGroups c.args.lists.now c.args.members.now c.args.groups.now c.args.dir c.args.named.now) (any_passes test) c.args.named.now c.args.i.now c.requires.valid c.requires.walk

pub loop-group-preserved : goal.loop-group-preserved
loop-group-preserved c =
    let lists = c.args.lists.now in
    let members = c.args.members.now in
    let groups = c.args.groups.now in
    let named = c.args.named.now in
    let dir = c.args.dir in
    let i = c.args.i.now in
    let enough = DivideGroups lists members groups dir named in
    let test = group_test lists members groups dir i in
    let k = c.loop-group.group-index in
    let rest = c.loop-group.rest in
    let row = get_or named k 0 in
    let is = get_or_default named k 0 row (omega arith) in
    let x = c.any_in_group_on-allowed.result in
    let has = row_has named k row (omega arith) is in
    trying_next enough (any_passes test named) (any_passes test) test (none_passes_yet test) named i k rest row x
    c.within-rest.result (omega arith) is c.if-allowed.false c.within-rest.ensures.image c.within-rest.ensures.valid c.within-rest.ensures.kind
    c.loop-group.invariant (group_of_rest lists members groups named dir i rest row x has c.loop-group.invariant.image c.any_in_group_on-allowed.ensures.answers)

pub returns-then-allowed : goal.returns-then-allowed
returns-then-allowed c =
    let lists = c.args.lists.now in
    let members = c.args.members.now in
    let groups = c.args.groups.now in
    let named = c.args.named.now in
    let dir = c.args.dir in
    let i = c.args.i.now in
    let enough = DivideGroups lists members groups dir named in
    let test = group_test lists members groups dir i in
    let k = c.loop-group.group-index in
    let rest = c.loop-group.rest in
    let row = get_or named k 0 in
    let is = get_or_default named k 0 row (omega arith) in
    let x = c.any_in_group_on-allowed.result in
    let has = row_has named k row (omega arith) is in
    trying_last enough (any_passes test named) (any_passes test) test named i k rest row x true
    (one_passes test row) (omega arith) is c.if-allowed.true
    c.loop-group.invariant (group_of_rest lists members groups named dir i rest row x has c.loop-group.invariant.image c.any_in_group_on-allowed.ensures.answers)
