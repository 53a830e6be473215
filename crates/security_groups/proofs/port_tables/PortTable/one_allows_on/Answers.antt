use Rattle.std.proofs.Common.{◌≡◌, ◌∙◌, ◌<◌, List, length, subst, sym}
use Rattle.std.proofs.lemmas.List.{get_or_default}
use Rattle.security_groups.proofs.GroupsOn.{one-of-all}
use Rattle.security_groups.proofs.port_tables.PortTable.one_allows_on.Goals as goal
use Rattle.security_groups.specs.Dividing.{rule_at}
use Rattle.security_groups.specs.declared.rules.Rule.{Rule}

pub returns : goal.returns
returns c =
    let rows = c.self.inside.rules.items in
    let number = c.args.number in
    let rule = c.index.result.now in
    let below : number < length rows = subst (λ (rs : List Rule). number < length rs) (sym c.self.view_is) c.requires.within in
    let is : rule ≡ rule_at c.args.self.now number =
    subst (λ (rs : List Rule). rule ≡ rule_at rs number) c.self.view_is (c.index.ensures ∙ get_or_default rows number rule _ below) in
    one-of-all c.args.lists.now c.args.members.now c.args.dir c.args.self.now number c.args.i.now rule c.allows_on.result c.requires.within is c.allows_on.ensures.told
