use Rattle.image_tests.proofs.Trying.{IsTrying, any_passes}
use Rattle.security_groups.proofs.GroupsOn.{group_test}
use Rattle.security_groups.proofs.groups.each_group_on.Given as goal
use Rattle.security_groups.specs.Dividing.{DivideGroups}

abbrev pub invariant-loop-group : goal.invariant-loop-group
invariant-loop-group l =
    let passes = any_passes (group_test l.lists l.members l.groups l.dir l.i) in
    IsTrying (DivideGroups l.lists l.members l.groups l.dir l.named) (passes l.named) passes l.named l.i l.group-index l.rest
