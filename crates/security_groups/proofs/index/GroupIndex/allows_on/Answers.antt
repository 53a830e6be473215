use Rattle.std.proofs.Common.{◌∙◌, [], ap, arith, get_or, length}
use Rattle.std.proofs.lemmas.List.{get_or_default}
use Rattle.security_groups.proofs.GroupsOn.{index-allows}
use Rattle.security_groups.proofs.index.GroupIndex.allows_on.Goals as goal

pub returns : goal.returns
returns c =
    let interfaces = c.self.inside.membership.interfaces.items in
    let e = c.args.e in
    let named = c.index-interfaces-e.result in
    let long = ap length c.as_slice-interfaces.ensures.value in
    index-allows c.self.inside.rules.lists.items c.as_slice-lists.result.now c.self.inside.membership.members c.self.inside.rules.groups.items c.as_slice-groups.result.now
    interfaces c.args.self.now e c.args.dir c.as_slice-named.result.now c.args.i.now c.any_of_on.result c.self.view_is c.as_slice-lists.ensures.value c.as_slice-groups.ensures.value
    (c.as_slice-named.ensures ∙ c.index-interfaces-e.is ∙ ap (λ l. get_or l e.0 named) c.as_slice-interfaces.ensures.value ∙ get_or_default interfaces e.0 named [] (omega arith))
    c.any_of_on.ensures
