use Rattle.std.proofs.Common.{◌≡◌, ◌∙◌, ap, sym}
use Rattle.vpc_model.specs.Appliances.{Appliances}
use Rattle.vpc_model.specs.Verdict.{verdict_of}
use Rattle.policy_check.specs.Judged.{verdict_in}
use Rattle.policy_check.proofs.halts.halt_at.Goals as goal

pub unreachable-requires : goal.unreachable-requires
unreachable-requires g c =
    let d = c.args.f.now in
    let q = c.args.query.now in
    let verdict : c.round.result ≡ verdict_in d q c.args.h = c.round.ensures ∙ ap (λ (a : Appliances). verdict_of d a q.start q.goal c.args.h) c.requires.appliances in
    c.requires.stopped (sym verdict ∙ c.in-Through.is)

pub returns-clause-stopped : goal.returns-clause-stopped
returns-clause-stopped g c =
    let d = c.args.f.now in
    let q = c.args.query.now in
    let verdict : c.round.result ≡ verdict_in d q c.args.h = c.round.ensures ∙ ap (λ (a : Appliances). verdict_of d a q.start q.goal c.args.h) c.requires.appliances in
    sym verdict ∙ c.in-Stopped.is
