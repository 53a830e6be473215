use Rattle.std.proofs.Common.{take}
use Rattle.policy_check.specs.Policy.{AddsLines}
use Rattle.policy_check.proofs.policies.put_all_judged.Given as goal

abbrev pub invariant-loop-rule : goal.invariant-loop-rule
invariant-loop-rule g l = AddsLines l.f (take l.rule-index l.rules) l.fn.out.items l.out.items l.tally
