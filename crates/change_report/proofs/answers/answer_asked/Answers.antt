use Rattle.std.proofs.Common.{map, string_bytes}
use Rattle.vpc_base.proofs.Results.{if_ok}
use Rattle.change_report.specs.Answered.{IsAnswerTo, IsPrinted}
use Rattle.change_report.proofs.AnswerLemmas.{answered_by}
use Rattle.change_report.proofs.answers.answer_asked.Goals as goal

pub returns : goal.returns
returns g c =
    let all = c.args.asked.now.compared in
    let words = map string_bytes c.args.words.now in
    let body = c.in_ok-body.body in
    if_ok (λ a. IsPrinted all words body.text.items body.count body.next a.status a.text.items) (λ a. IsAnswerTo all words a.status a.text.items) c.answer_body.result
    (λ a. answered_by all words c.before-before.result.now c.after-after.result.now c.query-query.result.now c.before-before.ensures c.after-after.ensures c.query-query.ensures
    c.in_ok-targets.targets.items c.as_slice.result.now c.in_ok-starts.starts.items c.as_slice-2.result.now body.text.items body.count body.next a.status a.text.items
    c.as_slice.ensures.value c.in_ok-targets.ensures c.as_slice-2.ensures.value c.in_ok-starts.ensures.starts c.in_ok-body.ensures)
    c.answer_body.ensures
