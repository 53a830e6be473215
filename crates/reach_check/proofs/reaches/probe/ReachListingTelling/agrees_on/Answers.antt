use Rattle.std.proofs.Common.{◌∙◌, sym}
use Rattle.cut_laws.proofs.Among.{among_itself}
use Rattle.reach_check.proofs.Agreeing.{agreement_of-part}
use Rattle.reach_check.proofs.reaches.probe.ReachListingTelling.agrees_on.Goals as goal

pub returns-clause-aligned : goal.returns-clause-aligned
returns-clause-aligned g c = c.reached_on-answer.ensures.aligned _ (among_itself _)

pub returns-clause-means : goal.returns-clause-means
returns-clause-means g c =
    let p = c.args.self.now in
    λ h held.
    agreement_of-part p.walks.sent p.network.now _ c.reached_on-answer.result.told h p.same (c.reached_on-answer.ensures.told h held)
    ∙ sym c.agreed.ensures
