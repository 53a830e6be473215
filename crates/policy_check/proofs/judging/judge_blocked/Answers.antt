use Rattle.std.proofs.Common.{Option, subst}
use Rattle.header_boxes.specs.Rows.{IsFirst}
use Rattle.network_reach.specs.Reached.{meaning_in}
use Rattle.vpc_laws.specs.Types.{Header}
use Rattle.policy_check.proofs.Found.{none_through}
use Rattle.policy_check.specs.Judged.{IsFirstHalt}
use Rattle.policy_check.specs.declared.certainties.Certainty.TheVariants as certainties
use Rattle.policy_check.specs.declared.halts.Halt.{Halt}
use Rattle.policy_check.proofs.judging.judge_blocked.Goals as goal

pub returns-in-Some-2 : goal.returns-in-Some-2
returns-in-Some-2 g c =
    let d = c.args.f.now in
    let q = c.args.query.now in (
      none_through d q (subst (λ (o : Option Header). IsFirst (meaning_in d q) q.sides o) c.in-None.is c.in_ok-h.ensures),
      subst (λ (o : Option Halt). IsFirstHalt d q certainties.Unknown o) c.in-Some-2.is c.in_ok-halt-in-None.ensures,
    )

pub returns-in-None-2 : goal.returns-in-None-2
returns-in-None-2 g c =
    let d = c.args.f.now in
    let q = c.args.query.now in (
      none_through d q (subst (λ (o : Option Header). IsFirst (meaning_in d q) q.sides o) c.in-None.is c.in_ok-h.ensures),
      subst (λ (o : Option Halt). IsFirstHalt d q certainties.Unknown o) c.in-None-2.is c.in_ok-halt-in-None.ensures,
    )
