use Rattle.std.proofs.Common.{subst, sym}
use Rattle.vpc_laws.specs.Types.{Description}
use Rattle.vpc_model.specs.Accepted.{IsAccepted}
use Rattle.policy_check.proofs.Found.{told_if_found}
use Rattle.policy_check.specs.Judged.{CanBeTold}
use Rattle.policy_check.proofs.policies.put_judged.Goals as goal

pub put_finding-requires : goal.put_finding-requires
put_finding-requires g c =
    let d = c.args.f.now in
    let rule = c.args.rule.now in
    let accepted = subst IsAccepted c.network-n.ensures c.description.ensures.accepted in
    subst (λ (x : Description). CanBeTold x c.in_ok-finding.finding) (sym c.network-n.ensures)
    (told_if_found d rule.wanted rule.query c.in_ok-finding.finding accepted c.requires.query c.in_ok-finding.ensures)
