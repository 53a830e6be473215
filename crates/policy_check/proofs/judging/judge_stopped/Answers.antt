use Rattle.std.proofs.Common.{Option, subst}
use Rattle.policy_check.proofs.Found.{first_unknown, stopped_if_found}
use Rattle.policy_check.specs.Judged.{IsFirstHalt, verdict_in}
use Rattle.policy_check.specs.declared.certainties.Certainty.TheVariants as certainties
use Rattle.policy_check.specs.declared.halts.Halt.{Halt}
use Rattle.policy_check.proofs.judging.judge_stopped.Goals as goal

pub halt_at-requires-clause-stopped : goal.halt_at-requires-clause-stopped
halt_at-requires-clause-stopped g c =
    stopped_if_found (verdict_in c.args.f.now c.args.query.now c.args.h) c.requires.first.through

pub returns-in-None : goal.returns-in-None
returns-in-None g c =
    let d = c.args.f.now in
    let q = c.args.query.now in
    let none = subst (λ (o : Option Halt). IsFirstHalt d q certainties.Known o) c.in-None.is c.in_ok-halt.ensures in
    (none, first_unknown d q c.args.h c.halt_at.result c.requires.first c.halt_at.ensures.header c.halt_at.ensures.stopped none)
