use Rattle.std.proofs.Common.{◌∙◌, sym, subst}
use Rattle.vpc_base.proofs.Results.{if_ok}
use Rattle.box_gather.specs.Over.{IsGatheredOver}
use Rattle.journey_changes.specs.Changes.{change_of, cuts_of_both}
use Rattle.journey_changes.specs.Sent.{AreSentWell, Sent}
use Rattle.change_report.specs.Told.{change_in, cuts_in, sent_after, sent_before}
use Rattle.change_report.specs.Walked.{AreWalksOf}
use Rattle.change_report.proofs.GatherLemmas.{gathered_by_sent, sent_well_after, sent_well_before, turned_after, turned_before, turned_on}
use Rattle.change_report.proofs.gathered.gather_from.Goals as goal

pub turn-requires-clause-before : goal.turn-requires-clause-before
turn-requires-clause-before g c =
    let all = c.args.compared.now in
    subst (λ (s : Sent). AreSentWell s) (sym (turned_before all c.args.walks.now.before.sent c.args.start c.requires.walks.before_is))
    (sent_well_before all c.args.start c.requires.ends c.requires.start)

pub turn-requires-clause-after : goal.turn-requires-clause-after
turn-requires-clause-after g c =
    let all = c.args.compared.now in
    subst (λ (s : Sent). AreSentWell s) (sym (turned_after all c.args.walks.now.after.sent c.args.start c.requires.walks.after_is))
    (sent_well_after all c.args.start c.requires.ends c.requires.start)

pub returns-clause-gathered : goal.returns-clause-gathered
returns-clause-gathered g c =
    let all = c.args.compared.now in
    let old = c.args.walks.now in
    let b = c.turn.new.self.before.sent in
    let a = c.turn.new.self.after.sent in
    if_ok (IsGatheredOver (change_of b a) (cuts_of_both b.network a.network) c.args.boxes.now c.args.room)
    (IsGatheredOver (change_in all c.args.start) (cuts_in all) c.args.boxes.now c.args.room) c.gather.result
    (λ x. gathered_by_sent b a (sent_before all c.args.start) (sent_after all c.args.start) c.args.boxes.now c.args.room x
    (c.turn.ensures.before ∙ turned_before all old.before.sent c.args.start c.requires.walks.before_is)
    (c.turn.ensures.after ∙ turned_after all old.after.sent c.args.start c.requires.walks.after_is))
    c.gather.ensures.gathered

pub returns-clause-walks : goal.returns-clause-walks
returns-clause-walks g c =
    let old = c.args.walks.now in
    let turned = c.turn.new.self in
    let same = sym c.gather.ensures.same in
    subst (λ w. AreWalksOf c.args.compared.now w.before.sent w.after.sent) same
    (record {
      before_is = turned_on old.before.sent turned.before.sent c.args.start.before c.turn.ensures.before ∙ c.requires.walks.before_is;
      after_is = turned_on old.after.sent turned.after.sent c.args.start.after c.turn.ensures.after ∙ c.requires.walks.after_is;
    })
