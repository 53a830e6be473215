use Rattle.std.proofs.Common.{ℕ, List, ap, subst, ◌∙◌}
use Rattle.serde_json.specs.View.{view}
use Rattle.json_fields.specs.FieldFault.{Reads}
use Rattle.json_fields.specs.Paths.{at_row}
use Rattle.reference_check.specs.FirstNumbers.{number_in}
use Rattle.read_filters.specs.GroupRules.{rule_if}
use Rattle.read_filters.proofs.group_rules.row_if.Goals as goal

pub returns-clause-rule : goal.returns-clause-rule
returns-clause-rule c =
    let P : List ℕ → Type 0 = λ p. Reads (λ x. x) (rule_if (number_in c.args.numbers.now) c.args.seen.now (view c.args.row.now) p) c.rule_if.result in
    subst P (c.row.ensures ∙ ap (λ l. at_row l c.args.number) c.list-list.ensures) c.rule_if.ensures.rule
