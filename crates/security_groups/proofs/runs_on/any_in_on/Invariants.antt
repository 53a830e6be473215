use Rattle.image_tests.proofs.Trying.{IsTrying, any_passes}
use Rattle.security_groups.proofs.AskingOn.{rule_test}
use Rattle.security_groups.proofs.runs_on.any_in_on.Given as goal
use Rattle.security_groups.specs.Rules.{DivideRules}

abbrev pub invariant-loop-rule : goal.invariant-loop-rule
invariant-loop-rule l =
    let passes = any_passes (rule_test l.lists l.members l.dir l.i) in
    IsTrying (DivideRules l.lists l.members l.rules) (passes l.rules) passes l.rules l.i l.rule-index l.rest
