use Rattle.std.proofs.Common.{List, arith, subst}
use Rattle.std.proofs.lemmas.List.{take_all}
use Rattle.query_words.specs.declared.queries.Query.{Query}
use Rattle.vpc_laws.specs.Types.{Description}
use Rattle.unused_rules.proofs.Tallies.{adds_more, adds_none}
use Rattle.unused_rules.specs.Lines.{AddsLines}
use Rattle.unused_rules.specs.declared.rules.RuleName.{RuleName}
use Rattle.unused_rules.proofs.answer.put_all_judged.Goals as goal

pub loop-rule-init : goal.loop-rule-init
loop-rule-init g c = record { lines = adds_none c.of-base.result.fabric.now c.of-base.result.query.now c.args.out.now.items; idle = tt }

pub loop-rule-preserved : goal.loop-rule-preserved
loop-rule-preserved g c = record {
  lines = adds_more c.of-base.result.fabric.now c.of-base.result.query.now c.args.rules.now c.loop-rule.rule-index _ c.args.out.now.items c.loop-rule.out.items c.put_judged.new.out.items
      (omega arith) c.loop-rule.invariant.lines c.in_ok-put_judged.ensures;
  idle = c.in_ok-idle.ensures;
}

pub returns : goal.returns
returns g c =
    let old = c.args.out.now.items in
    let new = c.loop-rule.out.items in
    let base = c.of-base.result in
    subst (λ (d : Description). AddsLines d c.args.query.now c.args.rules.now old new) c.of-base.ensures.network
    (subst (λ (q : Query). AddsLines base.fabric.now q c.args.rules.now old new) c.of-base.ensures.query
    (subst (λ (rs : List RuleName). AddsLines base.fabric.now base.query.now rs old new) (take_all c.loop-rule.rule-index c.args.rules.now c.loop-rule-test.false) c.loop-rule.invariant.lines))
