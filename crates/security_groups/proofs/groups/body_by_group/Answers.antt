use Rattle.std.proofs.Common.{IfSome, List, arith, subst}
use Rattle.security_groups.proofs.GroupsOn.{rules-found}
use Rattle.security_groups.proofs.groups.body_by_group.Goals as goal
use Rattle.security_groups.specs.Dividing.{IsAllowedOn}
use Rattle.security_groups.specs.declared.rules.Rule.{Rule}

pub returns : goal.returns
returns c =
    subst (λ (rs : List Rule). IfSome c.allowed_on.result (IsAllowedOn c.args.lists.now c.args.members.now c.args.dir rs c.args.i.now))
    (rules-found c.args.groups.now c.args.dir c.args.group c.index-groups-group.result c.rules_of.result.now (omega arith) c.index-groups-group.is c.rules_of.ensures)
    c.allowed_on.ensures
