use Rattle.std.proofs.Common.{◌∙◌, subst, sym}
use Rattle.change_report.proofs.GatherLemmas.{sent_after-as, sent_well_after}
use Rattle.journey_changes.specs.Sent.{AreSentWell, Sent}
use Rattle.diff_check.proofs.starts.walks_after.Goals as goal

pub of-requires-clause-ends : goal.of-requires-clause-ends
of-requires-clause-ends g c =
    let all = c.args.asked.now.compared in
    let start = c.args.start.now in
    subst (λ (s : Sent). AreSentWell s) (sym (sent_after-as all start.after c.fabric_after.result.now c.args.asked.now.after_links.now c.query.result.now c.toward_after.result c.fabric_after.ensures c.args.asked.now.linked_after c.query.ensures c.toward_after.ensures))
    (sent_well_after all start c.requires.ends c.requires.start)

pub returns : goal.returns
returns g c =
    let all = c.args.asked.now.compared in
    let start = c.args.start.now in
    c.of.ensures ∙ sent_after-as all start.after c.fabric_after.result.now c.args.asked.now.after_links.now c.query.result.now c.toward_after.result c.fabric_after.ensures c.args.asked.now.linked_after c.query.ensures c.toward_after.ensures
