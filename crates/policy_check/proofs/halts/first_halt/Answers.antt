use Rattle.std.proofs.Common.{Option, subst}
use Rattle.box_walk.specs.Asking.{asked}
use Rattle.header_boxes.specs.Rows.{IsFirst}
use Rattle.vpc_laws.specs.Types.{Header}
use Rattle.policy_check.proofs.Found.{first_halted, halted_if_found, none_halted}
use Rattle.policy_check.specs.Judged.{verdict_in}
use Rattle.policy_check.specs.Stopped.{halting_of}
use Rattle.policy_check.proofs.halts.first_halt.Goals as goal

pub halt_at-requires-clause-stopped : goal.halt_at-requires-clause-stopped
halt_at-requires-clause-stopped g c =
    let d = c.args.f.now in
    let q = c.args.query.now in
    let found = subst (λ (o : Option Header). IsFirst (halting_of c.args.certainty (asked d q.start q.goal)) q.sides o) c.in-Some.is c.in_ok-first_of.ensures in
    halted_if_found c.args.certainty (verdict_in d q c.in-Some.h) found.through

pub returns-in-None : goal.returns-in-None
returns-in-None g c =
    let d = c.args.f.now in
    let q = c.args.query.now in
    none_halted d q c.args.certainty (subst (λ (o : Option Header). IsFirst (halting_of c.args.certainty (asked d q.start q.goal)) q.sides o) c.in-None.is c.in_ok-first_of.ensures)

pub returns-in-Some : goal.returns-in-Some
returns-in-Some g c =
    let d = c.args.f.now in
    let q = c.args.query.now in
    let found = subst (λ (o : Option Header). IsFirst (halting_of c.args.certainty (asked d q.start q.goal)) q.sides o) c.in-Some.is c.in_ok-first_of.ensures in
    first_halted d q c.args.certainty c.in-Some.h c.halt_at.result found c.halt_at.ensures.header c.halt_at.ensures.stopped
