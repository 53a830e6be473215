use Rattle.std.proofs.Common.{◌≤◌, ◌∙◌, List, Option, ap, length, option_map, subst, sym, ℕ}
use Rattle.vpc_laws.specs.Types.{Interface, RuleRef}
use Rattle.vpc_model.specs.Groups.{first_rule}
use Rattle.vpc_model.specs.Lookup.{interface_at}
use Rattle.vpc_model.specs.declared.outcomes.By.TheVariants as bys
use Rattle.flow_check.proofs.Passing.{by_groups-some}
use Rattle.flow_check.proofs.rules.groups_pass.Goals as goal

pub returns-in_default : goal.returns-in_default
returns-in_default c =
    let e = interface_at c.args.f.now c.args.i in
    let rule = first_rule c.args.f.now e c.args.dir c.args.h.now in
    let same = c.as_slice.ensures ∙ ap (λ (x : Interface). x.groups) c.interface_at.ensures in
    c.by_rule.ensures
    ∙ ap (λ (o : Option RuleRef). option_map (λ r. bys.Rule r) o) c.first_rule.ensures
    ∙ sym (by_groups-some e.groups rule (subst (λ (gs : List (List ℕ)). 1 ≤ length gs) same c.in_default.len_at_least))
