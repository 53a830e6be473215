use Rattle.std.proofs.Common.{◌∙◌, Some, ap, subst, sym}
use Rattle.journey_changes.specs.Sent.{AreSentWell, sent}
use Rattle.journey_changes.specs.declared.fates.Toward.{Toward}
use Rattle.reach_check.proofs.Fates.{sent_well}
use Rattle.reach_check.proofs.reaches.question.ReachQuestion.walks_from.Goals as goal

pub of-requires-clause-ends : goal.of-requires-clause-ends
of-requires-clause-ends g c =
    let q = c.args.self.now in
    subst (λ (t : Toward). AreSentWell (sent q.fabric.now (Some c.args.start) q.links.now t)) (sym c.toward.ensures) (sent_well q.fabric.now c.args.start q.links.now q.goal c.requires q.goal_is)

pub returns : goal.returns
returns g c = c.of.ensures ∙ ap (λ (t : Toward). sent c.args.self.now.fabric.now (Some c.args.start) c.args.self.now.links.now t) c.toward.ensures
