use Rattle.std.proofs.Common.{◌∙◌, arith, Some, ap, get_or, subst, sym, List}
use Rattle.std.specs.List.{list_any}
use Rattle.security_groups.specs.Rules.{allows}
use Rattle.security_groups.specs.Dividing.{FindsOne}
use Rattle.security_groups.specs.Tables.{run_of}
use Rattle.security_groups.specs.declared.rules.Rule.{Rule}
use Rattle.security_groups.proofs.Finding.{ended-passed, run-has, run-passed}
use Rattle.security_groups.proofs.RunsOn.{none-ended}
use Rattle.security_groups.proofs.runs_on.allowing_in_runs.Goals as goal
use Rattle.security_groups.proofs.runs_on.allowing_in_runs.Goals.{then-h-begun+in_default, else-h-begun}

pub loop-k-init : goal.loop-k-init
loop-k-init c =
    ended-passed c.args.lists.now c.args.members.now c.args.dir c.args.h.now c.args.begun.now.rules.now c.args.begun.now.lasts.now c.args.begun.now.ended c.requires.runs c.requires.ended c.args.begun.now.ended (omega arith)

pub returns-in-Some : goal.returns-in-Some
returns-in-Some c =
    let p = allows c.args.lists.now c.args.members.now c.args.dir c.args.h.now in
    run-has p c.args.begun.now.rules.now c.loop-k.k c.in-Some.number
    (subst (λ (rs : List Rule). FindsOne p rs (Some c.in-Some.number)) c.run_of.ensures
    (subst (FindsOne p c.run_of.result.now) c.in-Some.is c.allowing_in-allowing.ensures))

pub loop-k-preserved : goal.loop-k-preserved
loop-k-preserved c =
    let p = allows c.args.lists.now c.args.members.now c.args.dir c.args.h.now in
    let k = c.loop-k.k in
    elim c.if-h-begun.branch [
      | then-h-begun+in_default w ↦
          run-passed p c.args.begun.now.rules.now k (sym (ap (list_any p) w.run_of.ensures) ∙ subst (FindsOne p w.run_of.result.now) w.in_default.is w.allowing_in-allowing.ensures) c.loop-k.invariant
      | else-h-begun w ↦
          run-passed p c.args.begun.now.rules.now k
          (none-ended c.args.lists.now c.args.members.now c.args.dir c.args.h.now (get_or c.args.begun.now.lasts.now k 0) (run_of k c.args.begun.now.rules.now) (c.requires.runs.ends k c.loop-k-test.true) w.if-h-begun.false)
          c.loop-k.invariant
    ]
