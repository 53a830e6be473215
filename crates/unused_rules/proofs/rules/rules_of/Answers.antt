use Rattle.std.proofs.Common.{◌∙◌, List, ap, subst, sym}
use Rattle.std.specs.List.{All}
use Rattle.vpc_laws.specs.Types.{Acl, Description, Group}
use Rattle.unused_rules.proofs.Short.{few-acls, few-groups, short-acls, short-groups}
use Rattle.unused_rules.specs.Rules.{HasShortRows, HasShortRules, IsShort}
use Rattle.unused_rules.proofs.rules.rules_of.Goals as goal

pub add_groups-requires-clause-few : goal.add_groups-requires-clause-few
add_groups-requires-clause-few c =
    subst (λ (gs : List Group). IsShort gs) (sym (c.as_slice.ensures ∙ ap (λ (d : Description). d.groups) c.description-d.ensures.value)) (few-groups c.args.n.now c.description-d.ensures.accepted)

pub add_groups-requires-clause-short : goal.add_groups-requires-clause-short
add_groups-requires-clause-short c =
    subst (λ (gs : List Group). All HasShortRules gs) (sym (c.as_slice.ensures ∙ ap (λ (d : Description). d.groups) c.description-d.ensures.value)) (short-groups c.args.n.now c.description-d.ensures.accepted)

pub add_acls-requires-clause-few : goal.add_acls-requires-clause-few
add_acls-requires-clause-few c =
    subst (λ (acls : List Acl). IsShort acls) (sym (c.as_slice-2.ensures ∙ ap (λ (d : Description). d.acls) c.description-d.ensures.value)) (few-acls c.args.n.now c.description-d.ensures.accepted)

pub add_acls-requires-clause-short : goal.add_acls-requires-clause-short
add_acls-requires-clause-short c =
    subst (λ (acls : List Acl). All HasShortRows acls) (sym (c.as_slice-2.ensures ∙ ap (λ (d : Description). d.acls) c.description-d.ensures.value)) (short-acls c.args.n.now c.description-d.ensures.accepted)
