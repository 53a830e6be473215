use Rattle.std.proofs.Common.{◌∙◌, List, ap}
use Rattle.vpc_base.specs.declared.headers.Dir.TheVariants as dirs
use Rattle.security_groups.proofs.AlikeLemmas.{group_lets_in_same}
use Rattle.security_groups.specs.Dividing.{rules_in}
use Rattle.security_groups.specs.declared.groups.GroupRules.{GroupRules}
use Rattle.security_groups.proofs.alike.lets_in_same.Goals as goal

pub returns : goal.returns
returns c same =
    let names = c.args.names.now in
    group_lets_in_same names.one.now names.other.now c.args.group c.args.twin c.inward_rules.result.now c.inward_rules-2.result.now
    (c.inward_rules.ensures ∙ ap (λ (gs : List GroupRules). rules_in gs dirs.Inward c.args.group) c.groups.ensures)
    (c.inward_rules-2.ensures ∙ ap (λ (gs : List GroupRules). rules_in gs dirs.Inward c.args.twin) c.groups-2.ensures) (c.all_match_same.ensures same)
