use Rattle.std.proofs.Common.{arith}
use Rattle.security_groups.proofs.RunsOn.{left-all, left-before, left-beyond, refused-more}
use Rattle.security_groups.proofs.runs_on.before_next.Goals as goal

pub loop-rule-preserved : goal.loop-rule-preserved
loop-rule-preserved c =
    refused-more c.args.lists.now c.args.members.now c.args.dir c.args.i.now c.args.rules.now c.args.begun c.loop-rule.rule-index c.rule-item.result
    c.loop-rule-test.true c.rule-item.is (c.could_allow.ensures c.if-could_allow.false) c.loop-rule.invariant

pub returns-then-last-from : goal.returns-then-last-from
returns-then-last-from c =
    left-beyond c.args.lists.now c.args.members.now c.args.dir c.args.rules.now c.args.begun c.loop-rule.rule-index c.args.i.now c.rule-item.result c.greatest-last.result
    c.loop-rule-test.true c.rule-item.is c.requires.ascend c.requires.later c.loop-rule.invariant c.requires.valid c.greatest-last.ensures (let less = c.if-last-from.true in let is = c.from.ensures in omega arith)

pub returns-then-passed-eq-MOST_PASSED : goal.returns-then-passed-eq-MOST_PASSED
returns-then-passed-eq-MOST_PASSED c =
    left-before c.args.lists.now c.args.members.now c.args.dir c.args.rules.now c.args.begun c.loop-rule.rule-index c.args.i.now c.rule-item.result c.begins_on.result
    c.loop-rule-test.true c.rule-item.is c.requires.ascend c.requires.later c.loop-rule.invariant c.begins_on.ensures

pub returns : goal.returns
returns c =
    left-all c.args.lists.now c.args.members.now c.args.dir c.args.rules.now c.args.begun c.loop-rule.rule-index c.args.i.now
    c.requires.valid c.loop-rule-test.false c.loop-rule.invariant
