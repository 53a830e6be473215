use Rattle.std.proofs.Common.{◌∙◌, None, subst, sym}
use Rattle.journey_changes.specs.Sent.{AreSentWell, Sent}
use Rattle.change_report.proofs.GatherLemmas.{from_nowhere_after, sent_after-as}
use Rattle.change_report.proofs.gathered.probe_after.Goals as goal

pub of-requires-clause-ends : goal.of-requires-clause-ends
of-requires-clause-ends g c =
    let all = c.args.asked.now.compared in
    subst (λ (s : Sent). AreSentWell s) (sym (sent_after-as all None c.fabric_after.result.now c.args.asked.now.after_links.now c.query.result.now c.toward_after.result c.fabric_after.ensures c.args.asked.now.linked_after c.query.ensures c.toward_after.ensures))
    (from_nowhere_after all c.requires)

pub returns : goal.returns
returns g c =
    let all = c.args.asked.now.compared in
    c.of.ensures ∙ sent_after-as all None c.fabric_after.result.now c.args.asked.now.after_links.now c.query.result.now c.toward_after.result c.fabric_after.ensures c.args.asked.now.linked_after c.query.ensures c.toward_after.ensures
