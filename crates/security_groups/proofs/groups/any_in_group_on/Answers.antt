use Rattle.std.proofs.Common.{List, arith, subst}
use Rattle.box_images.specs.Answers.{Answers}
use Rattle.box_images.specs.Images.{header_at}
use Rattle.security_groups.proofs.GroupsOn.{rules-found}
use Rattle.security_groups.proofs.groups.any_in_group_on.Goals as goal
use Rattle.security_groups.specs.Rules.{DivideRules, any_allows}
use Rattle.security_groups.specs.declared.rules.Rule.{Rule}

pub returns-clause-answers : goal.returns-clause-answers
returns-clause-answers c =
    let lists = c.args.lists.now in
    let members = c.args.members.now in
    let dir = c.args.dir in
    let i = c.args.i.now in
    subst (λ (rs : List Rule). Answers (DivideRules lists members rs) (λ h. any_allows lists members dir rs (header_at i h)) i.part c.any_allows_on.result)
    (rules-found c.args.groups.now dir c.args.group c.index-groups-group.result c.rules_of.result.now (omega arith) c.index-groups-group.is c.rules_of.ensures)
    c.any_allows_on.ensures
