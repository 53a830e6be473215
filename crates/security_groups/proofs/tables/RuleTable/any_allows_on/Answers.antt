use Rattle.std.proofs.Common.{List, subst}
use Rattle.box_images.specs.Answers.{Answers}
use Rattle.box_images.specs.Images.{header_at}
use Rattle.security_groups.proofs.Joining.{same-answers, same-found}
use Rattle.security_groups.proofs.tables.RuleTable.any_allows_on.Goals as goal
use Rattle.security_groups.specs.Rules.{DivideRules, any_allows}
use Rattle.security_groups.specs.declared.rules.Rule.{Rule}

pub returns-in-Some : goal.returns-in-Some
returns-in-Some c =
    same-answers c.args.lists.now c.args.members.now c.args.dir c.self.inside.rules c.in-Some.joined c.args.self.now c.args.i.now c.any_allows_on.result
    (same-found c.self.inside.rules c.in-Some.joined c.self.inside.joined c.in-Some.is c.self.invariant) c.self.view_is c.any_allows_on.ensures

pub returns-in-None : goal.returns-in-None
returns-in-None c =
    let lists = c.args.lists.now in
    let members = c.args.members.now in
    let dir = c.args.dir in
    let i = c.args.i.now in
    subst (λ (rs : List Rule). Answers (DivideRules lists members rs) (λ h. any_allows lists members dir rs (header_at i h)) i.part c.any_allows_on-in-None.result) c.self.view_is
    c.any_allows_on-in-None.ensures
