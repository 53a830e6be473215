use Rattle.std.proofs.Common.{◌+◌, arith, subst, sym, take}
use Rattle.policy_check.proofs.Tallies.{adds-room, adds_more}
use Rattle.policy_check.specs.Policy.{AddsLines}
use Rattle.policy_check.specs.declared.counts.Tally.{Tally}
use Rattle.policy_check.proofs.policies.put_all_judged.Goals as goal

pub with_one-tally-requires : goal.with_one-tally-requires
with_one-tally-requires g c =
    omega (arith, adds-room c.args.f.now c.args.rules.now c.loop-rule.rule-index c.args.out.now.items c.loop-rule.out.items c.loop-rule.tally (omega arith) c.loop-rule.invariant)

pub loop-rule-preserved : goal.loop-rule-preserved
loop-rule-preserved g c =
    let rules = c.args.rules.now in
    let i = c.loop-rule.rule-index in
    let more = adds_more c.args.f.now rules i _ c.args.out.now.items c.loop-rule.out.items c.put_judged.new.out.items c.loop-rule.tally c.in_ok-finding.finding
    (omega arith) c.loop-rule.invariant c.in_ok-finding.ensures in
    subst (λ (t : Tally). AddsLines c.args.f.now (take (i + 1) rules) c.args.out.now.items c.put_judged.new.out.items t) (sym c.with_one-tally.ensures) more
