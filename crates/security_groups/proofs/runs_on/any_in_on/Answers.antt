use Rattle.std.proofs.Common.{◌+◌, Bool, Option, arith, subst, sym, true}
use Rattle.std.specs.Prelude.{IfNone, IfSome}
use Rattle.vpc_base.proofs.Members.{row_has}
use Rattle.image_tests.proofs.Trying.{IsTrying, any_passes, none_passes_yet, one_passes, trying_first, trying_last, trying_next, trying_passed}
use Rattle.security_groups.proofs.AskingOn.{none_of_rest, rule_of_rest, rule_test}
use Rattle.security_groups.proofs.RunsOn.{ports-above-rest}
use Rattle.security_groups.proofs.runs_on.any_in_on.Goals as goal
use Rattle.security_groups.proofs.runs_on.any_in_on.Goals.{in_default, in-Some+else-allowed}
use Rattle.box_images.specs.Answers.{Answers}
use Rattle.box_images.specs.declared.images.Part.{Part}
use Rattle.security_groups.specs.Dividing.{AllowsNone}
use Rattle.security_groups.specs.Rules.{DivideRule, DivideRules}

pub loop-rule-init : goal.loop-rule-init
loop-rule-init c =
    let lists = c.args.lists.now in
    let members = c.args.members.now in
    let rules = c.args.rules.now in
    trying_first (DivideRules lists members rules) (any_passes (rule_test lists members c.args.dir c.args.i.now)) rules c.args.i.now c.requires.valid c.requires.walk

pub loop-rule-preserved : goal.loop-rule-preserved
loop-rule-preserved c =
    let lists = c.args.lists.now in
    let members = c.args.members.now in
    let rules = c.args.rules.now in
    let dir = c.args.dir in
    let i = c.args.i.now in
    let test = rule_test lists members dir i in
    let k = c.loop-rule.rule-index in
    let rest = c.loop-rule.rest in
    let row = c.rule-item.result in
    let trying = IsTrying (DivideRules lists members rules) (any_passes test rules) (any_passes test) rules i (k + 1) in
    let answers : Option (Part Bool) → Type 0 = λ o. IfSome o (Answers (DivideRule lists members row) (rule_test lists members dir rest row) rest.part) in
    elim c.match-allows_on.branch [
      | in-Some+else-allowed w ↦
          let x = w.in-Some.allowed in
          let has = row_has rules k row (omega arith) c.rule-item.is in
          subst trying (sym w.rest-is)
          (trying_next (DivideRules lists members rules) (any_passes test rules) (any_passes test) test (none_passes_yet test) rules i k rest row x
          w.keep.new.self (omega arith) c.rule-item.is w.if-allowed.false w.keep.ensures.image w.keep.ensures.valid w.keep.ensures.kind
          c.loop-rule.invariant (rule_of_rest lists members rules dir i rest row x has c.loop-rule.invariant.image (subst answers w.in-Some.is c.allows_on.ensures.told)))
      | in_default w ↦
          subst trying (sym w.rest-is)
          (trying_passed (DivideRules lists members rules) (any_passes test rules) (any_passes test) test (none_passes_yet test) rules i k rest row
          (omega arith) c.rule-item.is
          (none_of_rest lists members dir i rest row c.loop-rule.invariant.image (subst (λ o. IfNone o (AllowsNone lists members dir rest row)) w.in_default.is c.allows_on.ensures.none))
          c.loop-rule.invariant)
    ]

pub allows_on-requires-clause-above : goal.allows_on-requires-clause-above
allows_on-requires-clause-above c =
    ports-above-rest c.args.i.now c.loop-rule.rest c.args.q c.requires.above c.loop-rule.invariant.image c.loop-rule.invariant.reduced.inside.within

pub returns-then-allowed : goal.returns-then-allowed
returns-then-allowed c =
    let lists = c.args.lists.now in
    let members = c.args.members.now in
    let rules = c.args.rules.now in
    let dir = c.args.dir in
    let i = c.args.i.now in
    let test = rule_test lists members dir i in
    let k = c.loop-rule.rule-index in
    let rest = c.loop-rule.rest in
    let row = c.rule-item.result in
    let x = c.in-Some.allowed in
    let answers : Option (Part Bool) → Type 0 = λ o. IfSome o (Answers (DivideRule lists members row) (rule_test lists members dir rest row) rest.part) in
    let has = row_has rules k row (omega arith) c.rule-item.is in
    trying_last (DivideRules lists members rules) (any_passes test rules) (any_passes test) test rules i k rest row x true
    (one_passes test row) (omega arith) c.rule-item.is c.if-allowed.true
    c.loop-rule.invariant (rule_of_rest lists members rules dir i rest row x has c.loop-rule.invariant.image (subst answers c.in-Some.is c.allows_on.ensures.told))
