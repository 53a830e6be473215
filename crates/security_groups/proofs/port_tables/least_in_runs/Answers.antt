use Rattle.std.proofs.Common.{◌∙◌, ap, arith, get_or, sym}
use Rattle.security_groups.specs.Asking.{least, lesser}
use Rattle.security_groups.specs.Rules.{allows}
use Rattle.security_groups.specs.Tables.{run_of}
use Rattle.security_groups.proofs.Least.{lesser-none}
use Rattle.security_groups.proofs.Runs.{least-before, least-ended, least-run}
use Rattle.security_groups.proofs.port_tables.least_in_runs.Goals as goal
use Rattle.security_groups.proofs.port_tables.least_in_runs.Goals.{then-h-begun, else-h-begun}

pub loop-k-init : goal.loop-k-init
loop-k-init c =
    sym (least-before c.args.lists.now c.args.members.now c.args.dir c.args.h.now c.args.begun.now.rules.now c.args.begun.now.lasts.now c.args.begun.now.ended c.requires.runs c.requires.ended c.args.begun.now.ended (omega arith))

pub loop-k-preserved : goal.loop-k-preserved
loop-k-preserved c =
    let p = allows c.args.lists.now c.args.members.now c.args.dir c.args.h.now in
    let k = c.loop-k.k in
    elim c.if-h-begun.branch [
      | then-h-begun w ↦
          w.least-is
          ∙ w.lesser-least.ensures
          ∙ ap (lesser c.loop-k.least) (w.least_in.ensures ∙ ap (least p) w.run_of.ensures)
          ∙ ap (λ o. lesser o (least p (run_of k c.args.begun.now.rules.now))) c.loop-k.invariant
          ∙ sym (least-run p c.args.begun.now.rules.now k)
      | else-h-begun w ↦
          w.least-is
          ∙ sym (lesser-none c.loop-k.least)
          ∙ ap (lesser c.loop-k.least) (sym (least-ended c.args.lists.now c.args.members.now c.args.dir c.args.h.now (get_or c.args.begun.now.lasts.now k 0) (run_of k c.args.begun.now.rules.now) (c.requires.runs.ends k c.loop-k-test.true) w.if-h-begun.false))
          ∙ ap (λ o. lesser o (least p (run_of k c.args.begun.now.rules.now))) c.loop-k.invariant
          ∙ sym (least-run p c.args.begun.now.rules.now k)
    ]
