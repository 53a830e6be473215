use Rattle.std.proofs.Common.{◌≡◌, ◌∙◌, rules, Ok, Result, ap, sym}
use Rattle.serde_json.specs.View.{view}
use Rattle.json_fields.specs.FieldFault.{and_then}
use Rattle.bundle.specs.Types.{FieldFault}
use Rattle.read_filters.specs.GroupRules.{group_rules_of}
use Rattle.read_gateways.specs.Outside.{outside_of}
use Rattle.read_gateways.specs.Scope.{scope_of}
use Rattle.bundle.specs.Instances.{instances_of}
use Rattle.bundle.proofs.reader.with_later_lists.Goals as goal

-- what was read goes on to the next
read_then : {A B : Type 0} (read : Result A FieldFault) (a : A) (next : A → Result B FieldFault) → read ≡ Ok a → and_then read next ≡ next a
read_then read a next is = ap (λ r. and_then r next) is

pub returns : goal.returns
returns c =
    let bundle = view c.args.bundle.now in
    let groups : group_rules_of bundle c.args.filters.groups ≡ Ok c.in_ok-groups.groups.items =
    ap (group_rules_of bundle) (sym c.into_vec.ensures) ∙ c.in_ok-groups.ensures in
    let outside : outside_of bundle ≡ Ok c.in_ok-outside.outside = c.in_ok-outside.ensures in
    let interfaces : instances_of bundle c.args.network.interfaces ≡ Ok c.in_ok-interfaces.interfaces.items =
    ap (instances_of bundle) (sym c.into_vec-2.ensures) ∙ c.in_ok-interfaces.ensures in
    let scope : scope_of bundle ≡ Ok c.in_ok-scope.scope = c.in_ok-scope.ensures in
    read_then _ _ _ groups ∙ (read_then _ _ _ outside ∙ (read_then _ _ _ interfaces ∙ (read_then _ _ _ scope ∙ search rules)))
