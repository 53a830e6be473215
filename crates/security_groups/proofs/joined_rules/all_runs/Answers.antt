use Rattle.std.proofs.Common.{◌∙◌, ◌++◌, [], ap, arith}
use Rattle.security_groups.specs.declared.rules.Rule.{Rule}
use Rattle.security_groups.proofs.Steps.{flat_map-next}
use Rattle.security_groups.proofs.joined_rules.all_runs.Goals as goal

pub loop-rule-preserved : goal.loop-rule-preserved
loop-rule-preserved c =
    flat_map-next (λ (r : Rule). r.blocks) [] c.args.rules.now c.loop-rule.rule-index c.rule-item.result c.loop-rule.all.items c.append.new.all.items (omega arith) c.rule-item.is
    c.loop-rule.invariant (c.in_ok-append.ensures ∙ ap (λ xs. c.loop-rule.all.items ++ xs) c.runs.ensures.same)
