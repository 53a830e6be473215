use Rattle.std.proofs.Common.{◌∙◌}
use Rattle.serde_json.specs.View.{view}
use Rattle.reference_check.specs.FirstNumbers.{number_in}
use Rattle.read_filters.proofs.RuleLemmas.{rules_from-fault, rules_from-next}
use Rattle.read_filters.proofs.group_rules.rules_among.Goals as goal

pub returns-in_err-rule : goal.returns-in_err-rule
returns-in_err-rule c =
    rules_from-fault (λ r. view r.now) (λ v. v.items) (number_in c.args.numbers.now) c.loop-number.seen c.args.rows.now c.loop-number.number c.index-rows-number.result c.loop-number.rules.items c.in_err-rule.field-0.0 _ c.from_residual.result
    c.loop-number-test.true c.index-rows-number.is c.in_err-rule.ensures.rule c.loop-number.invariant c.from_residual.ensures.1

pub loop-number-preserved : goal.loop-number-preserved
loop-number-preserved c =
    rw (c.in_ok-add_if.ensures, c.in_ok-rule.ensures.seen)
    (rules_from-next (λ r. view r.now) (number_in c.args.numbers.now) c.loop-number.seen c.args.rows.now c.loop-number.number c.index-rows-number.result c.loop-number.rules.items c.in_ok-rule.rule
    c.loop-number-test.true c.index-rows-number.is c.in_ok-rule.ensures.rule ∙ c.loop-number.invariant)
