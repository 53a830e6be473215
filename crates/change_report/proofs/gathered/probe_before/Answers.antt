use Rattle.std.proofs.Common.{◌∙◌, None, subst, sym}
use Rattle.journey_changes.specs.Sent.{AreSentWell, Sent}
use Rattle.change_report.proofs.GatherLemmas.{from_nowhere_before, sent_before-as}
use Rattle.change_report.proofs.gathered.probe_before.Goals as goal

pub of-requires-clause-ends : goal.of-requires-clause-ends
of-requires-clause-ends g c =
    let all = c.args.asked.now.compared in
    subst (λ (s : Sent). AreSentWell s) (sym (sent_before-as all None c.fabric_before.result.now c.args.asked.now.before_links.now c.query.result.now c.toward_before.result c.fabric_before.ensures c.args.asked.now.linked_before c.query.ensures c.toward_before.ensures))
    (from_nowhere_before all c.requires)

pub returns : goal.returns
returns g c =
    let all = c.args.asked.now.compared in
    c.of.ensures ∙ sent_before-as all None c.fabric_before.result.now c.args.asked.now.before_links.now c.query.result.now c.toward_before.result c.fabric_before.ensures c.args.asked.now.linked_before c.query.ensures c.toward_before.ensures
