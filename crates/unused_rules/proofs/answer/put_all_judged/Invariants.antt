use Rattle.std.proofs.Common.{take}
use Rattle.unused_rules.proofs.Tallies.{AreUnderWay}
use Rattle.unused_rules.proofs.answer.put_all_judged.Given as goal

abbrev pub invariant-loop-rule : goal.invariant-loop-rule
invariant-loop-rule g l = AreUnderWay l.base.fabric.now l.base.query.now (take l.rule-index l.rules) l.idle l.fn.out.items l.out.items
