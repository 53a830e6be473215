use Rattle.std.proofs.Common.{◌∙◌, None, Some, ap, arith, cond, sym}
use Rattle.security_groups.specs.Asking.{lesser}
use Rattle.security_groups.specs.Rules.{allows}
use Rattle.security_groups.proofs.Least.{least-next, lesser-none}
use Rattle.security_groups.proofs.port_tables.least_in.Goals as goal
use Rattle.security_groups.proofs.port_tables.least_in.Goals.{then-allows, else-allows}

pub loop-rule-preserved : goal.loop-rule-preserved
loop-rule-preserved c =
    let p = allows c.args.lists.now c.args.members.now c.args.dir c.args.h.now in
    let r = c.rule-item.result in
    elim c.if-allows.branch [
      | then-allows w ↦
          least-next p c.args.rules.now c.loop-rule.rule-index r c.loop-rule.least c.if-allows.least (omega arith) c.rule-item.is c.loop-rule.invariant
          (w.least-is ∙ w.lesser-least.ensures ∙ ap (λ b. lesser c.loop-rule.least (cond b (Some r.number) None)) (sym (sym c.allows.ensures ∙ w.if-allows.true)))
      | else-allows w ↦
          least-next p c.args.rules.now c.loop-rule.rule-index r c.loop-rule.least c.if-allows.least (omega arith) c.rule-item.is c.loop-rule.invariant
          (w.least-is ∙ sym (lesser-none c.loop-rule.least) ∙ ap (λ b. lesser c.loop-rule.least (cond b (Some r.number) None)) (sym (sym c.allows.ensures ∙ w.if-allows.false)))
    ]
