use Rattle.std.proofs.Common.{◌∙◌, subst, sym}
use Rattle.change_report.proofs.GatherLemmas.{sent_before-as, sent_well_before}
use Rattle.journey_changes.specs.Sent.{AreSentWell, Sent}
use Rattle.diff_check.proofs.starts.walks_before.Goals as goal

pub of-requires-clause-ends : goal.of-requires-clause-ends
of-requires-clause-ends g c =
    let all = c.args.asked.now.compared in
    let start = c.args.start.now in
    subst (λ (s : Sent). AreSentWell s) (sym (sent_before-as all start.before c.fabric_before.result.now c.args.asked.now.before_links.now c.query.result.now c.toward_before.result c.fabric_before.ensures c.args.asked.now.linked_before c.query.ensures c.toward_before.ensures))
    (sent_well_before all start c.requires.ends c.requires.start)

pub returns : goal.returns
returns g c =
    let all = c.args.asked.now.compared in
    let start = c.args.start.now in
    c.of.ensures ∙ sent_before-as all start.before c.fabric_before.result.now c.args.asked.now.before_links.now c.query.result.now c.toward_before.result c.fabric_before.ensures c.args.asked.now.linked_before c.query.ensures c.toward_before.ensures
